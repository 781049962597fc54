use Rattle.mcv_symbolic.proofs.Exactness.{hits_ignore_the_choice, done_ignores_the_choice, acknowledged_ignores_the_choice}
use Rattle.mcv_symbolic.proofs.laws.sets_ignore_the_choice.Goals as goal

pub returns : goal.returns
returns c = record { hits = hits_ignore_the_choice; done = done_ignores_the_choice; acknowledged = acknowledged_ignores_the_choice }
