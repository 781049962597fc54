use Rattle.std.proofs.Common.{◌≡◌, map}
use Rattle.serde_json.specs.View.{members_view}
use Rattle.mcv_names.specs.Lists.{each_member}
use Rattle.mcv_names.specs.Path.{path_of}
use Rattle.mcv_config.specs.ConfigValue.{pool_servers}
use Rattle.mcv_config.specs.Pools.{pool_read}
use Rattle.mcv_names.proofs.ReadLists.{after}
use Rattle.mcv_config.proofs.pools.read_each_pool.Given as goal

abbrev pub invariant-loop-name : goal.invariant-loop-name
invariant-loop-name l =
    each_member pool_read l.fn.servers (path_of l.trail) (members_view l.members.entries)
    ≡ after (map pool_servers l.pools.items) (each_member pool_read l.servers (path_of l.trail) (members_view l.name-iterator))
