use Rattle.std.proofs.Common.{◌≡◌, map, drop}
use Rattle.serde_json.specs.View.{view}
use Rattle.mcv_names.specs.Lists.{each}
use Rattle.mcv_names.specs.Path.{path_of}
use Rattle.mcv_config.specs.Pools.{server_read}
use Rattle.mcv_names.proofs.ReadLists.{after}
use Rattle.mcv_config.proofs.pools.read_each_server.Given as goal

abbrev pub invariant-loop-index : goal.invariant-loop-index
invariant-loop-index l =
    each (server_read (path_of l.trail)) l.fn.servers (path_of l.trail) 0 (map view l.list)
    ≡ after (map (λ s. s.0) l.ids.items) (each (server_read (path_of l.trail)) l.servers (path_of l.trail) l.index (map view (drop l.index l.list)))
