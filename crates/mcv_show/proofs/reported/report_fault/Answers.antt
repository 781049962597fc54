use Rattle.std.proofs.Common.{inl, inr, refl, sym, subst, List, ℕ}
use Rattle.mcv_show.specs.Reported.{IsFaultText}
use Rattle.mcv_show.proofs.WholeInput.{reported_text}
use Rattle.mcv_show.proofs.reported.report_fault.Goals as goal

pub returns-in-Ok-clause-fault : goal.returns-in-Ok-clause-fault
returns-in-Ok-clause-fault g c = elim c.write_report.ensures.fault [ inl same ↦ inl same | inr device ↦ inr (inr device) ]

pub returns-in-Ok-clause-reported : goal.returns-in-Ok-clause-reported
returns-in-Ok-clause-reported g c no_memory no_device =
    let text = subst (λ (xs : List ℕ). IsFaultText c.args.input.now c.args.fault xs) (sym c.as_slice.ensures.value) c.in-Ok.ensures in
    (c.as_slice.result.now, reported_text c.args.input.now c.args.fault c.write_report.result c.as_slice.result.now c.write_report.ensures.fault no_device text, c.write_report.ensures.written no_device)

pub returns-in-Err-clause-fault : goal.returns-in-Err-clause-fault
returns-in-Err-clause-fault g c = inr (inl refl)

pub returns-in-Err-clause-reported : goal.returns-in-Err-clause-reported
returns-in-Err-clause-reported g c no_memory = absurd (no_memory refl)
