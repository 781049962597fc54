use Rattle.std.proofs.Common.{◌≡◌, map, drop}
use Rattle.serde_json.specs.View.{view}
use Rattle.mcv_names.specs.Lists.{each}
use Rattle.mcv_names.specs.Path.{path_of}
use Rattle.mcv_names.proofs.ReadLists.{after}
use Rattle.mcv_config.specs.Entries.{entry_read}
use Rattle.mcv_config.specs.ConfigValue.{entry_value}
use Rattle.mcv_config.specs.View.{so_far_of}
use Rattle.mcv_config.proofs.entries.read_each_entry.Given as goal

abbrev pub invariant-loop-index : goal.invariant-loop-index
invariant-loop-index l =
    each entry_read (l.fn.seen, so_far_of l.fn.so_far) (path_of l.trail) 0 (map view l.list)
    ≡ after (map entry_value l.entries.items) (each entry_read (l.seen, so_far_of l.so_far) (path_of l.trail) l.index (map view (drop l.index l.list)))
