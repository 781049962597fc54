use Rattle.mcv_picks.proofs.PicksHold.{none_holds}
use Rattle.mcv_picks.proofs.laws.no_other_reason_holds.Goals as goal

pub returns : goal.returns
returns c = λ sizes b leaf i x r sized server whole picked index. none_holds sizes b leaf i x r sized server whole picked index
