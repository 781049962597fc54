use Rattle.mcv_rules.proofs.PrevailingArrival
use Rattle.mcv_rules.proofs.OneReply
use Rattle.mcv_rules.proofs.laws.the_last_reply_is_one.Goals as goal

pub returns-clause-one : goal.returns-clause-one
returns-clause-one c = OneReply.reply_is_one_of

pub returns-clause-stays : goal.returns-clause-stays
returns-clause-stays c = OneReply.one_reply_stays

pub returns-clause-all_sync : goal.returns-clause-all_sync
returns-clause-all_sync c = PrevailingArrival.all_sync_replies

pub returns-clause-last : goal.returns-clause-last
returns-clause-last c = PrevailingArrival.the_last_of_the_worst
