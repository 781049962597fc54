use Rattle.std.proofs.Common.{◌∙◌, List, ℕ, ap}
use Rattle.std.proofs.lemmas.Result.{IfOk-weaker}
use Rattle.mcv_faults.specs.FaultPointer.{fault_pointer}
use Rattle.mcv_report.proofs.fault.pointer_of.Goals as goal

pub returns : goal.returns
returns c =
    IfOk-weaker c.fault_pointer.result _ _ (λ pointer is. is ∙ ap (λ (path : List ℕ). fault_pointer path) (c.as_bytes.ensures.value ∙ c.path.ensures)) c.fault_pointer.ensures
