use Rattle.std.proofs.lemmas.Result.{IfOk-weaker}
use Rattle.serde_json.specs.View.{view}
use Rattle.mcv_patch.proofs.Put.{became_put}
use Rattle.mcv_patch.proofs.child.is_put.Goals as goal

pub returns : goal.returns
returns c =
    IfOk-weaker c.have_one_text.result _ _
    (λ is same told ms was. became_put c.args.key.now (view c.args.old.now) (view c.args.new.now) (view c.args.value.now) (view c.in_ok-changed.changed) 126 ms was c.requires.shallow c.requires.also c.requires.value (c.in_ok-changed.ensures ms was) (same told))
    c.have_one_text.ensures
