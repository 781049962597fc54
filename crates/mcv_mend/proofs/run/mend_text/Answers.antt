use Rattle.std.proofs.Common.{List, ℕ, sym, subst}
use Rattle.std.proofs.lemmas.Result.{IfOk-weaker}
use Rattle.mcv_config.specs.Config.{Faulty}
use Rattle.mcv_input.specs.Fault.{AreNamedBy, IsInputFault}
use Rattle.mcv_names.specs.Fault.{Refuses}
use Rattle.mcv_mend.proofs.WholeInput.{reading_fault}
use Rattle.mcv_mend.proofs.run.mend_text.Goals as goal

pub mend_named-requires-clause-named : goal.mend_named-requires-clause-named
mend_named-requires-clause-named c = subst (λ (text : List ℕ). AreNamedBy text c.in-Ok.old.routes) c.as_slice.ensures.value c.in-Ok.ensures.named

pub returns-in-Ok-clause-ok : goal.returns-in-Ok-clause-ok
returns-in-Ok-clause-ok c = IfOk-weaker c.mend_named.result _ _ (λ output is. (c.in-Ok.old.routes, subst (λ (text : List ℕ). AreNamedBy text c.in-Ok.old.routes) c.as_slice.ensures.value c.in-Ok.ensures.named, is)) c.mend_named.ensures.ok

pub returns-in-Err-clause-fault : goal.returns-in-Err-clause-fault
returns-in-Err-clause-fault c =
    let input = c.args.input.items in
    subst (IsInputFault input) (sym c.from.ensures)
    (reading_fault input c.in-Err.fault (subst (λ (text : List ℕ). Refuses c.in-Err.fault (Faulty text)) c.as_slice.ensures.value c.in-Err.ensures.fault))
