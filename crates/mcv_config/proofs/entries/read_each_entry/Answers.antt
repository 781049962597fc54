use Rattle.std.proofs.Common.{◌≡◌, ◌++◌, ◌∷◌, [], map, ap, ◌∙◌, arith}
use Rattle.std.proofs.lemmas.List.{map-append}
use Rattle.std.proofs.lemmas.Grind.{common_steps}
use Rattle.serde_json.specs.View.{view}
use Rattle.mcv_names.specs.declared.trail.Trail.{the_lemmas}
use Rattle.mcv_names.specs.Fault.{good}
use Rattle.mcv_names.specs.Path.{item_step, path_of}
use Rattle.mcv_names.proofs.ReadLists.{each-more}
use Rattle.mcv_config.specs.Entries.{Turn, entry_read}
use Rattle.mcv_config.specs.ConfigValue.{entry_value}
use Rattle.mcv_config.specs.View.{so_far_of}
use Rattle.mcv_config.proofs.entries.read_each_entry.Goals as goal

pub loop-index-preserved : goal.loop-index-preserved
loop-index-preserved c =
    let path = path_of c.args.trail.now in
    let i = c.loop-index.index in
    let item = c.index-list-index.result in
    let front = c.loop-index.entries.items in
    let entry = c.in_ok-read_entry.field-0 in
    let state : Turn = (c.loop-index.seen, so_far_of c.loop-index.so_far) in
    let left : Turn = (c.read_entry.new.seen, so_far_of c.read_entry.new.so_far) in
    let pushed : map entry_value c.push.new.self.items ≡ map entry_value front ++ entry_value entry ∷ [] = ap (map entry_value) c.in_ok-push.ensures.items ∙ map-append entry_value front (entry ∷ []) in
    let read : entry_read state (item_step path i) (view item) ≡ good (entry_value entry, left) = grind (arith, common_steps, the_lemmas) in
    c.loop-index.invariant
    ∙ each-more entry_read view state path c.args.list.now i item (map entry_value front) (map entry_value c.push.new.self.items) (entry_value entry) left c.loop-index-test.true c.index-list-index.is pushed read
