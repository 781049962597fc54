use Rattle.mcv_session.proofs.Life.{lived_fed}
use Rattle.mcv_session.proofs.laws.life_of_feeding.Goals as goal

pub returns : goal.returns
returns c = lived_fed c.any_pieces.ensures
