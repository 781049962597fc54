use Rattle.std.proofs.Common.{inl, inr, refl}
use Rattle.mcv_show.proofs.reported.write_report.Goals as goal

pub returns-in-Ok-clause-fault : goal.returns-in-Ok-clause-fault
returns-in-Ok-clause-fault g c = inl refl

pub returns-in-Ok-clause-written : goal.returns-in-Ok-clause-written
returns-in-Ok-clause-written g c no_device = c.in-Ok.ensures.written

pub returns-in-Err-clause-fault : goal.returns-in-Err-clause-fault
returns-in-Err-clause-fault g c = inr c.in-Err.ensures.fault

pub returns-in-Err-clause-written : goal.returns-in-Err-clause-written
returns-in-Err-clause-written g c no_device = absurd (no_device c.in-Err.ensures.fault)
