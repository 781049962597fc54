use Rattle.mcv_session.proofs.Life.{lived_keeps}
use Rattle.mcv_session.proofs.laws.life_promises.Goals as goal

pub returns : goal.returns
returns c = lived_keeps
