use Rattle.std.proofs.Common.{inr}
use Rattle.mcv_spool.proofs.WorstDisk.{kept}
use Rattle.mcv_spool.proofs.history.a_disk_keeps_the_model.Goals as goal

pub returns-clause-met : goal.returns-clause-met
returns-clause-met c = kept

pub returns-clause-tears : goal.returns-clause-tears
returns-clause-tears c = λ log at bytes old new left torn. inr (old, left, torn)

pub returns-clause-shortens : goal.returns-clause-shortens
returns-clause-shortens c = λ log n old new left cut. inr (old, left, cut)
