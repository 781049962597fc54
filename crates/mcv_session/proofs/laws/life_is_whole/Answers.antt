use Rattle.mcv_session.specs.declared.phase.Phase.TheVariants.{Ended}
use Rattle.mcv_session.proofs.Life.{at_phase, lived_whole}
use Rattle.mcv_session.proofs.laws.life_is_whole.Goals as goal

pub returns-clause-idle : goal.returns-clause-idle
returns-clause-idle c = λ from h now is_open free none l. (lived_whole from h now is_open free none l).0

pub returns-clause-ended : goal.returns-clause-ended
returns-clause-ended c = λ from h now ended l. (at_phase Ended from h now l ended).0
