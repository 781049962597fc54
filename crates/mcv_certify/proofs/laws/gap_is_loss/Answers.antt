use Rattle.mcv_certify.proofs.GapIsLoss.{gap_lost}
use Rattle.mcv_certify.proofs.laws.gap_is_loss.Goals as goal

pub returns : goal.returns
returns c = gap_lost
