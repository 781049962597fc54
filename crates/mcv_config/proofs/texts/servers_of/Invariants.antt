use Rattle.std.proofs.Common.{◌≡◌, map}
use Rattle.std.specs.List.{range_with_len}
use Rattle.mcv_config.specs.ConfigValue.{named_of, server}
use Rattle.mcv_config.proofs.texts.servers_of.Given as goal

abbrev pub invariant-loop-index : goal.invariant-loop-index
invariant-loop-index l = map named_of l.children.items ≡ map (server l.pool) (range_with_len 0 l.index)
