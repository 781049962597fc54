use Rattle.mcv_rules.proofs.Verdicts
use Rattle.mcv_rules.proofs.laws.reachable_is_closed.Goals as goal

pub returns : goal.returns
returns c = Verdicts.reachable_is_closed
