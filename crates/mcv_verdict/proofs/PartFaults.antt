-- The parts' faults, as those of a run.
use Rattle.std.proofs.Common.{ℕ, List, Option, Some, None, subst, sym}
use Rattle.mcv_cert.specs.Fault as text
use Rattle.mcv_cert.specs.Pair.{CertificateValue}
use Rattle.mcv_cert.specs.Reading.{Says, pairs}
use Rattle.mcv_cert.specs.declared.fault.CertFault.{CertFault}
use Rattle.mcv_cert.specs.declared.fault.CertFault.TheVariants as text_faults
use Rattle.mcv_check.specs.Fault as check
use Rattle.mcv_check.specs.declared.fault.CheckFault.{CheckFault}
use Rattle.mcv_check.specs.declared.fault.CheckFault.TheVariants as check_faults
use Rattle.mcv_input.specs.Fault.{AreNamedBy, IsInputFault, of_text}
use Rattle.mcv_input.specs.declared.fault.RunFault.{RunFault}
use Rattle.mcv_input.specs.declared.fault.RunFault.TheVariants.{Line, NoRoute, Config, CertificateText, Certificate, Window, Memory, Device}
use Rattle.mcv_route.specs.Routes.{RoutesValue, within}
use Rattle.mcv_verdict.specs.Fault.{IsRefusedBy, IsRefusedFor, IsRunFault, of_check}

pub input_fault_so : (input : List ℕ) (window : ℕ) (certificate : Option (List ℕ)) (fault : RunFault) → IsInputFault input fault → IsRunFault input window certificate fault
input_fault_so input window certificate Line is = is
input_fault_so input window certificate NoRoute is = is
input_fault_so input window certificate (Config fault) is = is
input_fault_so input window certificate (CertificateText fault) is = absurd is
input_fault_so input window certificate (Certificate fault) is = absurd is
input_fault_so input window certificate Window is = absurd is
input_fault_so input window certificate Memory is = tt
input_fault_so input window certificate Device is = tt

pub text_refused_so : (r : RoutesValue) (certificate : List ℕ) (fault : CertFault) → text.IsFaultOfText (Says certificate) fault → IsRefusedBy r certificate (of_text fault)
text_refused_so r certificate (text_faults.Text fault) is = is
text_refused_so r certificate text_faults.Memory is = tt

pub check_refused_so : (r : RoutesValue) (certificate : List ℕ) (c : CertificateValue) (fault : CheckFault) → Says certificate (pairs c.window c.pairs) → check.IsFaultOfCertificate r c fault
    → IsRefusedBy r certificate (of_check fault)
check_refused_so r certificate c (check_faults.Pair fault) says is = (c.pairs, subst (λ (w : ℕ). Says certificate (pairs w c.pairs)) is.0 says, is.1)
check_refused_so r certificate c check_faults.Memory says is = tt
check_refused_so r certificate c check_faults.Window says is = (c.window, c.pairs, says, is)

pub refused_so : (input : List ℕ) (window : ℕ) (r : RoutesValue) (certificate : List ℕ) (fault : RunFault) → IsRefusedBy (within window r) certificate fault → AreNamedBy input r
    → IsRunFault input window (Some certificate) fault
refused_so input window r certificate Line is named = is
refused_so input window r certificate NoRoute is named = is
refused_so input window r certificate (Config fault) is named = absurd is
refused_so input window r certificate (CertificateText fault) is named = (r, named, is)
refused_so input window r certificate (Certificate fault) is named = (r, named, is)
refused_so input window r certificate Window is named = (r, named, is)
refused_so input window r certificate Memory is named = tt
refused_so input window r certificate Device is named = tt

pub refused_for : (input : List ℕ) (window : ℕ) (r : RoutesValue) (given : Option (List ℕ)) (fault : RunFault) → IsRefusedFor (within window r) given fault → AreNamedBy input r → IsRunFault input window given fault
refused_for input window r None fault is named = subst (λ (f : RunFault). IsRunFault input window None f) (sym is) tt
refused_for input window r (Some certificate) fault is named = refused_so input window r certificate fault is named
