use Rattle.mcv_symbolic.proofs.Exactness.{hits_are_exact, done_is_exact, acknowledged_is_exact, acknowledged_is_least}
use Rattle.mcv_symbolic.proofs.laws.sets_are_exact.Goals as goal

pub returns : goal.returns
returns c = record { hits = hits_are_exact; done = done_is_exact; acknowledged = acknowledged_is_exact; least = acknowledged_is_least }
