use Rattle.std.proofs.Common.{◌≡◌, map, drop}
use Rattle.serde_json.specs.View.{view}
use Rattle.mcv_names.specs.Lists.{each}
use Rattle.mcv_names.specs.Path.{path_of}
use Rattle.mcv_names.proofs.ReadLists.{after}
use Rattle.mcv_config.specs.Aliases.{alias_read}
use Rattle.mcv_config.proofs.aliases.read_each_alias.Given as goal

abbrev pub invariant-loop-index : goal.invariant-loop-index
invariant-loop-index l =
    each alias_read l.fn.seen (path_of l.trail) 0 (map view l.list)
    ≡ after l.aliases.items (each alias_read l.seen (path_of l.trail) l.index (map view (drop l.index l.list)))
