-- The faults of a run, their numbers, texts and exit statuses; what a configuration's text names, and which fault is in it (own).
use Rattle.std.specs.Prelude.{◌≡◌, ◌⊎◌, ℕ, List, ⊤, ◌++◌, codes, decimal}
use Rattle.mcv_cert.specs.Fault as cert_text
use Rattle.mcv_cert.specs.declared.fault.CertFault.{CertFault}
use Rattle.mcv_cert.specs.declared.fault.CertFault.TheVariants as cert_faults
use Rattle.mcv_judge.specs.Numbers.{number_of}
use Rattle.mcv_names.specs.Fault.{fault_number, fault_of, fault_path}
use Rattle.mcv_names.specs.declared.fault.ConfigFault.{ConfigFault}
use Rattle.mcv_names.specs.declared.fault.ReadFault.{ReadFault}
use Rattle.mcv_names.specs.declared.fault.ReadFault.TheVariants as read_faults
use Rattle.mcv_config.specs.Config.{Faulty, Names}
use Rattle.mcv_config.specs.ConfigValue.{ConfigValue}
use Rattle.mcv_route.specs.NamedRoutes.{routes_named}
use Rattle.mcv_route.specs.Routes.{RoutesValue}
use Rattle.mcv_input.specs.declared.fault.RunFault.{RunFault}
use Rattle.mcv_input.specs.declared.fault.RunFault.TheVariants.{Line, NoRoute, Config, CertificateText, Certificate, Window, Memory, Device}

abbrev pub run_fault_number : RunFault → ℕ
run_fault_number Line = 1
run_fault_number NoRoute = 2
run_fault_number (Config fault) = 3
run_fault_number (CertificateText fault) = 4
run_fault_number (Certificate fault) = 5
run_fault_number Memory = 6
run_fault_number Device = 7
run_fault_number Window = 8

-- 1: the request is at fault, 2: the configuration, 4: what the program depends on, 5: the certificate
abbrev pub run_fault_status : RunFault → ℕ
run_fault_status Line = 1
run_fault_status NoRoute = 2
run_fault_status (Config fault) = 2
run_fault_status (CertificateText fault) = 5
run_fault_status (Certificate fault) = 5
run_fault_status Window = 5
run_fault_status Memory = 4
run_fault_status Device = 4

abbrev pub run_fault_text : RunFault → List ℕ
run_fault_text Line = codes "bad request line"
run_fault_text NoRoute = codes "no route"
run_fault_text (Config fault) = codes "configuration " ++ decimal (fault_number fault) ++ codes " at " ++ fault_path fault
run_fault_text (CertificateText fault) = codes "certificate text " ++ decimal (cert_text.fault_number fault) ++ codes " line " ++ decimal (cert_text.fault_line fault)
run_fault_text (Certificate fault) = codes "certificate fault " ++ decimal (number_of fault)
run_fault_text Window = codes "certificate fault 7"
run_fault_text Memory = codes "out of memory"
run_fault_text Device = codes "device failed"

-- ---- what the parts' faults are to a run; out of memory is one and the same

abbrev pub of_reading : ReadFault → RunFault
of_reading (read_faults.Config fault) = Config fault
of_reading read_faults.Memory = Memory

abbrev pub of_text : CertFault → RunFault
of_text (cert_faults.Text fault) = CertificateText fault
of_text cert_faults.Memory = Memory

-- memory ran out, or a reader, a writer or a file failed
abbrev pub IsOutside : RunFault → Type 0
IsOutside fault = (fault ≡ Memory) ⊎ (fault ≡ Device)

-- ---- configurations

-- the text names a configuration, and the routes are its own
abbrev pub AreNamedBy : List ℕ → RoutesValue → Type 0
AreNamedBy text routes = (config : ConfigValue) × Names text config × (routes ≡ routes_named config)

-- the fault is in the text of a configuration
abbrev pub IsConfigFault : List ℕ → ConfigFault → Type 0
IsConfigFault text fault = Faulty text (fault_of fault)

-- the fault is in the text of a configuration; out of memory and the failure of a device can come at any
abbrev pub IsInputFault : List ℕ → RunFault → Type 0
IsInputFault text Line = ⊥
IsInputFault text NoRoute = ⊥
IsInputFault text (Config fault) = IsConfigFault text fault
IsInputFault text (CertificateText fault) = ⊥
IsInputFault text (Certificate fault) = ⊥
IsInputFault text Window = ⊥
IsInputFault text Memory = ⊤
IsInputFault text Device = ⊤
