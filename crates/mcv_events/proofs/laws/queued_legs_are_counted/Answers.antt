use Rattle.mcv_events.proofs.QueuedLegs
use Rattle.mcv_events.proofs.laws.queued_legs_are_counted.Goals as goal

pub returns-clause-began : goal.returns-clause-began
returns-clause-began c = QueuedLegs.beginning_queues

pub returns-clause-recorded : goal.returns-clause-recorded
returns-clause-recorded c = QueuedLegs.recording_queues

pub returns-clause-put : goal.returns-clause-put
returns-clause-put c = QueuedLegs.putting_counts
