-- The numbers of the spool's refusals (own).
use Rattle.std.specs.Prelude.{ℕ}
use Rattle.mcv_spool.specs.declared.fault.SpoolFault.{SpoolFault}
use Rattle.mcv_spool.specs.declared.fault.SpoolFault.TheVariants.{Device, Full, Memory, Reopen, Damaged}

abbrev pub fault_number : SpoolFault → ℕ
fault_number Device = 1
fault_number Full = 2
fault_number Memory = 3
fault_number Reopen = 4
fault_number (Damaged k) = 5
