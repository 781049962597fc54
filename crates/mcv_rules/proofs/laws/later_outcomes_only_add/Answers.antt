use Rattle.mcv_rules.proofs.AnswersStay
use Rattle.mcv_rules.proofs.Verdicts
use Rattle.mcv_rules.proofs.laws.later_outcomes_only_add.Goals as goal

pub returns-clause-reply : goal.returns-clause-reply
returns-clause-reply c = AnswersStay.reply_stays

pub returns-clause-sent : goal.returns-clause-sent
returns-clause-sent c = Verdicts.sent_stays
