use Rattle.std.proofs.Common.{◌≤◌, ◌∙◌, ap, arith, length}
use Rattle.std.proofs.lemmas.Grind.{common_steps}
use Rattle.serde_json.specs.View.{items_view, view}
use Rattle.serde_json.specs.declared.value.Value.{Value}
use Rattle.mcv_patch.specs.Patch.{with_item}
use Rattle.mcv_patch.proofs.Put.{items_view_set, items_view_unset}
use Rattle.mcv_patch.proofs.child.put_item.Goals as goal

pub returns-then-len-number : goal.returns-then-len-number
returns-then-len-number c =
    let past : length c.args.items.now.items ≤ c.args.number = grind (arith, common_steps) in
    items_view_unset c.args.number c.args.value c.args.items.now.items past

pub returns : goal.returns
returns c =
    let items = c.args.items.now.items in
    items_view_set c.args.number c.replace.new.dest items
    ∙ ap (λ (value : Value). with_item c.args.number (view value) (items_view items)) c.replace.ensures.after
