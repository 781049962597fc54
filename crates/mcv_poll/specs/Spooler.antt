-- When a spool has to be opened again (own).
use Rattle.std.specs.Prelude.{Bool, true, false}
use Rattle.mcv_spool.specs.declared.fault.SpoolFault.{SpoolFault}
use Rattle.mcv_spool.specs.declared.fault.SpoolFault.TheVariants as spool

-- after such a fault the spool answers nothing else before it is opened again
abbrev pub breaks_spool : SpoolFault → Bool
breaks_spool spool.Device = true
breaks_spool spool.Full = false
breaks_spool spool.Memory = false
breaks_spool spool.Reopen = true
breaks_spool (spool.Damaged k) = false
