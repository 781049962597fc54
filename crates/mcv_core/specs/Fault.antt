-- The numbers of faults (own).
use Rattle.std.specs.Prelude.{ℕ}
use Rattle.mcv_queues.specs.declared.fault.QueueFault.{QueueFault}
use Rattle.mcv_queues.specs.declared.fault.QueueFault.TheVariants as queues
use Rattle.mcv_core.specs.declared.fault.CoreFault.{CoreFault}
use Rattle.mcv_core.specs.declared.fault.CoreFault.TheVariants.{UnknownPrefix, BadKey, LegsFull, ChapterFull, NothingWaiting, NoSuchLeg, Busy, ClockBack, Memory, NoSuchCall}

abbrev pub fault_number : CoreFault → ℕ
fault_number UnknownPrefix = 1
fault_number BadKey = 2
fault_number LegsFull = 3
fault_number ChapterFull = 4
fault_number NothingWaiting = 5
fault_number NoSuchLeg = 6
fault_number Busy = 7
fault_number ClockBack = 8
fault_number Memory = 9
fault_number NoSuchCall = 10

-- why a server is handed no leg
abbrev pub queue_fault : QueueFault → CoreFault
queue_fault queues.Busy = Busy
queue_fault queues.NothingWaiting = NothingWaiting
