use Rattle.mcv_events.proofs.Status
use Rattle.mcv_events.proofs.laws.status_is_reply.Goals as goal

pub returns-clause-histories : goal.returns-clause-histories
returns-clause-histories c = Status.histories_agree

pub returns-clause-status : goal.returns-clause-status
returns-clause-status c = Status.status_is_reply
