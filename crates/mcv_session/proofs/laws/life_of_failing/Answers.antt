use Rattle.mcv_session.proofs.Life.{lived_failed}
use Rattle.mcv_session.proofs.laws.life_of_failing.Goals as goal

pub returns : goal.returns
returns c = lived_failed
