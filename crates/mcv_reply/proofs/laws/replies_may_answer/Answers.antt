use Rattle.mcv_reply.proofs.RepliesMayAnswer.{given_may_answer, spelled_may_answer}
use Rattle.mcv_reply.proofs.laws.replies_may_answer.Goals as goal

pub returns-clause-spelled : goal.returns-clause-spelled
returns-clause-spelled c = spelled_may_answer

pub returns-clause-fed : goal.returns-clause-fed
returns-clause-fed c old new piece reply fed = given_may_answer old.op old.key old.state piece reply new.state fed.answers
