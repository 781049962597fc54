-- The line on standard error behind that of a fault of the configuration (own).
use Rattle.std.specs.Prelude.{◌≡◌, Bool, Err, None, Ok, Option, Result, Some, false, not, true}
use Rattle.std.specs.Str.Lossy.{utf8_lossy}
use Rattle.clap.specs.Words.{Text}
use Rattle.mcv_faults.specs.FaultLine.{IsDetailOf}
use Rattle.mcv_input.specs.declared.fault.RunFault.{RunFault}
use Rattle.mcv_input.specs.declared.fault.RunFault.TheVariants.{Certificate, CertificateText, Config, Device, Line, Memory, NoRoute, Window}
use Rattle.mcv_names.specs.declared.fault.ConfigFault.{ConfigFault}
use Rattle.mcv_words.specs.declared.words.Job.{Job}
use Rattle.mcv_words.specs.declared.words.Job.TheVariants as jobs
use Rattle.mcv_command.specs.declared.stop.Ending.{Ending}
use Rattle.mcv_command.specs.declared.stop.Stop.{Stop}
use Rattle.mcv_command.specs.declared.stop.Stop.TheVariants.{BadLine, Mended, NoChange, Run, Damaged}

-- more is said of a fault where the job is done on a configuration alone (`legs` has a request before it, and `spool` reads no input), and `-q` isn't given
abbrev pub says_more : Job → Bool
says_more (jobs.Legs at) = false
says_more (jobs.Check cert options) = not options.quiet
says_more (jobs.Draw dot) = true
says_more (jobs.Mend patch) = true
says_more (jobs.Run options) = true
says_more (jobs.Spool options) = false

-- the fault of the configuration, where it is one
abbrev pub config_fault : RunFault → Option ConfigFault
config_fault Line = None
config_fault NoRoute = None
config_fault (Config fault) = Some fault
config_fault (CertificateText fault) = None
config_fault (Certificate fault) = None
config_fault Window = None
config_fault Memory = None
config_fault Device = None

-- that with which the program ended
abbrev pub ended_fault : Result Ending Stop → Option ConfigFault
ended_fault (Ok ending) = None
ended_fault (Err BadLine) = None
ended_fault (Err (Mended fault)) = None
ended_fault (Err NoChange) = None
ended_fault (Err (Damaged slot)) = None
ended_fault (Err (Run fault)) = config_fault fault

-- more is said of a fault of the configuration, which is the input, and of nothing else
abbrev pub IsSecondLine : (input : Text) → Option ConfigFault → (line : Option Text) → Type 0
IsSecondLine input None line = line ≡ None
IsSecondLine input (Some fault) line = (text : Text) × IsDetailOf input fault text × (line ≡ Some (utf8_lossy text))
