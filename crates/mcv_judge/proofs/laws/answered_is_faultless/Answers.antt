use Rattle.mcv_judge.proofs.AnsweringPairs.{answered_faultless}
use Rattle.mcv_judge.proofs.laws.answered_is_faultless.Goals as goal

pub returns : goal.returns
returns c = λ blocks ps order answers. answered_faultless blocks ps order answers
