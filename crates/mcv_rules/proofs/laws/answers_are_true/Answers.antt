use Rattle.mcv_rules.proofs.AnswersAreTrue
use Rattle.mcv_rules.proofs.laws.answers_are_true.Goals as goal

pub returns : goal.returns
returns c = AnswersAreTrue.answers_are_true
