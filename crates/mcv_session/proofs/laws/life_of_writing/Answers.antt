use Rattle.mcv_session.proofs.Life.{lived_written}
use Rattle.mcv_session.proofs.laws.life_of_writing.Goals as goal

pub returns : goal.returns
returns c = lived_written
