-- How the program ends: its exit status, and what it says on standard error where it stops early (own).
use Rattle.std.specs.Prelude.{ℕ, ◌++◌, Result, Ok, Err, codes, decimal}
use Rattle.clap.specs.Words.{Text}
use Rattle.mcv_input.specs.Fault.{run_fault_status, run_fault_text}
use Rattle.mcv_input.specs.declared.fault.RunFault.TheVariants as faults
use Rattle.mcv_mend.specs.declared.fault.MendFault.{MendFault}
use Rattle.mcv_mend.specs.declared.fault.MendFault.TheVariants as mend_faults
use Rattle.mcv_names.specs.Fault.{fault_number, fault_path}
use Rattle.mcv_records.specs.declared.fault.RecordsFault.{RecordsFault}
use Rattle.mcv_records.specs.declared.fault.RecordsFault.TheVariants as records
use Rattle.mcv_command.specs.declared.stop.Ending.{Ending}
use Rattle.mcv_command.specs.declared.stop.Ending.TheVariants.{Done, Lost}
use Rattle.mcv_command.specs.declared.stop.Stop.{Stop}
use Rattle.mcv_command.specs.declared.stop.Stop.TheVariants.{BadLine, Mended, NoChange, Run, Damaged}

abbrev pub stop_text : Stop → Text
stop_text BadLine = codes "mcv: bad command line"
stop_text (Run fault) = codes "mcv: " ++ run_fault_text fault
stop_text (Mended fault) = codes "mcv: mended configuration " ++ decimal (fault_number fault) ++ codes " at " ++ fault_path fault
stop_text NoChange = codes "mcv: no change found"
stop_text (Damaged slot) = codes "mcv: slot " ++ decimal slot ++ codes " of the spool is damaged"

-- 1: the command line is at fault; 3: the configuration can lose a delete and isn't mended; 4: a spool's file is damaged
abbrev pub stop_status : Stop → ℕ
stop_status BadLine = 1
stop_status (Run fault) = run_fault_status fault
stop_status (Mended fault) = 3
stop_status NoChange = 3
stop_status (Damaged slot) = 4

-- why the program stops where nothing is mended
abbrev pub stop_of_mending : MendFault → Stop
stop_of_mending (mend_faults.Run fault) = Run fault
stop_of_mending (mend_faults.Limit fault) = Mended fault
stop_of_mending mend_faults.GaveUp = NoChange

-- why it stops where the records of a spool aren't all written
abbrev pub of_records : RecordsFault → Stop
of_records (records.Damaged slot) = Damaged slot
of_records records.Device = Run faults.Device
of_records records.Memory = Run faults.Memory

-- 3: the configuration can lose a delete
abbrev pub ending_status : Ending → ℕ
ending_status Done = 0
ending_status Lost = 3

-- however the program ended
abbrev pub ended_status : Result Ending Stop → ℕ
ended_status (Ok ending) = ending_status ending
ended_status (Err stop) = stop_status stop
