use Rattle.mcv_session.proofs.Pieces.{serves_join}
use Rattle.mcv_session.proofs.laws.any_cut.Goals as goal

pub returns : goal.returns
returns g c = serves_join g.D.Desk.asks c.any_pieces.ensures
