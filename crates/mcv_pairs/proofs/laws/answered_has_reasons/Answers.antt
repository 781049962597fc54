use Rattle.mcv_pairs.proofs.AnsweredHasReasons.{answered_have}
use Rattle.mcv_pairs.proofs.laws.answered_has_reasons.Goals as goal

pub returns : goal.returns
returns c = λ blocks pairs h. answered_have blocks pairs h
