use Rattle.mcv_picks.proofs.PicksHold.{picked_hold}
use Rattle.mcv_picks.proofs.laws.picked_reasons_hold.Goals as goal

pub returns : goal.returns
returns c = λ b leaf r up h. picked_hold b leaf r up h
