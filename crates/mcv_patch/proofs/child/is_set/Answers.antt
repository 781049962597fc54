use Rattle.std.proofs.lemmas.Result.{IfOk-weaker}
use Rattle.serde_json.specs.View.{view}
use Rattle.mcv_patch.proofs.Put.{became_with_item}
use Rattle.mcv_patch.proofs.child.is_set.Goals as goal

pub returns : goal.returns
returns c =
    IfOk-weaker c.have_one_text.result _ _
    (λ is same told ds was. became_with_item c.args.number (view c.args.old.now) (view c.args.new.now) (view c.args.value.now) (view c.in_ok-changed.changed) 126 ds was c.requires.shallow c.requires.also c.requires.value (c.in_ok-changed.ensures ds was) (same told))
    c.have_one_text.ensures
