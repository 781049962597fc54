use Rattle.std.proofs.Common.{◌≡◌, map}
use Rattle.mcv_config.specs.ConfigValue.{pool_servers}
use Rattle.mcv_route.specs.Walk.{list_view}
use Rattle.mcv_route.proofs.build.shared_lists.Given as goal

-- a list for each pool so far
abbrev pub invariant-loop-pool : goal.invariant-loop-pool
invariant-loop-pool l = map list_view l.lists.items ≡ map pool_servers l.yielded
