-- The numbers of the faults (own).
use Rattle.std.specs.Prelude.{ℕ}
use Rattle.mcv_records.specs.declared.fault.RecordsFault.{RecordsFault}
use Rattle.mcv_records.specs.declared.fault.RecordsFault.TheVariants.{Damaged, Device, Memory}

abbrev pub fault_number : RecordsFault → ℕ
fault_number (Damaged k) = 1
fault_number Device = 2
fault_number Memory = 3
