-- Which fault it is where there is no verdict (own).
use Rattle.std.specs.Prelude.{◌≡◌, ◌≢◌, ℕ, List, Option, Some, None, ⊤, IsSomeAnd}
use Rattle.mcv_cert.specs.Pair.{PairValue}
use Rattle.mcv_cert.specs.Fault.{reading_of}
use Rattle.mcv_cert.specs.Reading.{Says, pairs}
use Rattle.mcv_cert.specs.declared.fault.CertTextFault.{CertTextFault}
use Rattle.mcv_check.specs.declared.fault.CheckFault.{CheckFault}
use Rattle.mcv_check.specs.declared.fault.CheckFault.TheVariants as check_faults
use Rattle.mcv_judge.specs.declared.fault.PairFault.{PairFault}
use Rattle.mcv_route.specs.Routes.{RoutesValue, within}
use Rattle.mcv_blocks.specs.Blocks.{IsFirstFaultOf}
use Rattle.mcv_input.specs.Fault.{AreNamedBy, IsConfigFault}
use Rattle.mcv_input.specs.declared.fault.RunFault.{RunFault}
use Rattle.mcv_input.specs.declared.fault.RunFault.TheVariants.{Line, NoRoute, Config, CertificateText, Certificate, Window, Memory, Device}

-- what the checker's fault is to a run; out of memory is one and the same
abbrev pub of_check : CheckFault → RunFault
of_check (check_faults.Pair fault) = Certificate fault
of_check check_faults.Memory = Memory
of_check check_faults.Window = Window

-- the fault is in a certificate's text
abbrev pub IsTextFault : (certificate : List ℕ) → CertTextFault → Type 0
IsTextFault certificate fault = Says certificate (reading_of fault)

-- the text says pairs for the window of the routes, and the fault is the first of a certificate with these
abbrev pub IsCertificateFault : RoutesValue → (certificate : List ℕ) → PairFault → Type 0
IsCertificateFault r certificate fault = (ps : List PairValue) × Says certificate (pairs r.window ps) × IsFirstFaultOf r ps fault

-- the text says pairs for another window than that of the routes
abbrev pub IsForAnotherWindow : RoutesValue → (certificate : List ℕ) → Type 0
IsForAnotherWindow r certificate = (w : ℕ) × (ps : List PairValue) × Says certificate (pairs w ps) × (w ≢ r.window)

-- a certificate's text is refused for the routes, or memory ran out
abbrev pub IsRefusedBy : RoutesValue → (certificate : List ℕ) → RunFault → Type 0
IsRefusedBy r certificate Line = ⊥
IsRefusedBy r certificate NoRoute = ⊥
IsRefusedBy r certificate (Config fault) = ⊥
IsRefusedBy r certificate (CertificateText fault) = IsTextFault certificate fault
IsRefusedBy r certificate (Certificate fault) = IsCertificateFault r certificate fault
IsRefusedBy r certificate Window = IsForAnotherWindow r certificate
IsRefusedBy r certificate Memory = ⊤
IsRefusedBy r certificate Device = ⊥

-- where no certificate is given, nothing is refused; only memory may run out
abbrev pub IsRefusedFor : RoutesValue → (certificate : Option (List ℕ)) → RunFault → Type 0
IsRefusedFor r None fault = fault ≡ Memory
IsRefusedFor r (Some certificate) fault = IsRefusedBy r certificate fault

-- the fault is in the configuration; or that names routes, which are looked at within the window, and the fault is in the text of the certificate that is given, or else in the certificate. Out of memory and the failure of a device can come at any
abbrev pub IsRunFault : (input : List ℕ) → (window : ℕ) → (certificate : Option (List ℕ)) → RunFault → Type 0
IsRunFault input window certificate Line = ⊥
IsRunFault input window certificate NoRoute = ⊥
IsRunFault input window certificate (Config fault) = IsConfigFault input fault
IsRunFault input window certificate (CertificateText fault) = (r : RoutesValue) × AreNamedBy input r × IsSomeAnd certificate (λ text. IsTextFault text fault)
IsRunFault input window certificate (Certificate fault) = (r : RoutesValue) × AreNamedBy input r × IsSomeAnd certificate (λ text. IsCertificateFault (within window r) text fault)
IsRunFault input window certificate Window = (r : RoutesValue) × AreNamedBy input r × IsSomeAnd certificate (λ text. IsForAnotherWindow (within window r) text)
IsRunFault input window certificate Memory = ⊤
IsRunFault input window certificate Device = ⊤
