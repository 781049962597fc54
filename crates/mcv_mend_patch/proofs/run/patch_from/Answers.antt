use Rattle.std.proofs.Common.{[], ◌∷◌, Option, ap, option_and_then, refl}
use Rattle.std.proofs.lemmas.Result.{IfOk-weaker}
use Rattle.serde_json.specs.Data.{Data}
use Rattle.mcv_patch.specs.Operations.{change_of}
use Rattle.mcv_patch.specs.Patch.{patched_by}
use Rattle.mcv_mend_patch.proofs.run.patch_from.Goals as goal

pub returns : goal.returns
returns c =
    let operation = c.in_ok-operation.operation in
    IfOk-weaker c.patch_text.result _ _
    (λ text written. record { changes = change_of operation ∷ []; written = written; makes = ap (λ (o : Option Data). option_and_then (patched_by []) o) c.in_ok-operation.ensures })
    (c.patch_text.ensures.one operation refl)
