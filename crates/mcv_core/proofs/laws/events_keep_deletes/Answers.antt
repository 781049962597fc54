use Rattle.mcv_core.proofs.DeletesStayKept
use Rattle.mcv_core.proofs.laws.events_keep_deletes.Goals as goal

pub returns-clause-opened : goal.returns-clause-opened
returns-clause-opened c = DeletesStayKept.opened_cores_keep_deletes

pub returns-clause-events : goal.returns-clause-events
returns-clause-events c = DeletesStayKept.events_keep_deletes
