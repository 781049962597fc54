use Rattle.std.proofs.lemmas.Result.{IfOk-weaker}
use Rattle.serde_json.specs.View.{view}
use Rattle.mcv_mend_patch.proofs.run.patch_to.Goals as goal

pub returns : goal.returns
returns c = IfOk-weaker c.patch_from.result _ _ (λ text patch. (view c.in_ok-value.value, c.in_ok-value.ensures.document, patch)) c.patch_from.ensures
