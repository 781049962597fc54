use Rattle.mcv_reply.proofs.RepliesInOrder.{fault_one, never_both, receives_one, replied_later}
use Rattle.mcv_reply.proofs.laws.replies_come_in_order.Goals as goal

pub returns-clause-one : goal.returns-clause-one
returns-clause-one c = receives_one

pub returns-clause-fault : goal.returns-clause-fault
returns-clause-fault c = fault_one

pub returns-clause-never_both : goal.returns-clause-never_both
returns-clause-never_both c = never_both

pub returns-clause-later : goal.returns-clause-later
returns-clause-later c = λ legs left bytes rest xs leg. replied_later legs bytes xs left rest leg
