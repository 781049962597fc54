use Rattle.mcv_rules.proofs.LegsRise
use Rattle.mcv_rules.proofs.laws.legs_come_in_order.Goals as goal

pub returns : goal.returns
returns c = LegsRise.legs_come_in_order
