-- What becomes of the first bytes of an input is what becomes of the input.
use Rattle.std.proofs.Common.{◌≡◌, ◌≤◌, ℕ, List, length, take, Some, refl, sym, subst, arith}
use Rattle.mcv_config.specs.Config.{Faulty, size_limit}
use Rattle.mcv_input.proofs.FirstBytes.{fault_of_known, read_limit, whole}
use Rattle.mcv_input.specs.Fault.{AreNamedBy, IsInputFault, of_reading}
use Rattle.mcv_input.specs.declared.fault.RunFault.{RunFault}
use Rattle.mcv_input.specs.declared.fault.RunFault.TheVariants.{Line, NoRoute, Config, CertificateText, Certificate, Window, Memory, Device}
use Rattle.mcv_names.specs.Fault.{Refuses}
use Rattle.mcv_names.specs.declared.fault.ReadFault.{ReadFault}
use Rattle.mcv_names.specs.declared.fault.ReadFault.TheVariants as read_faults
use Rattle.mcv_mend.specs.Kept.{IsKeptIn}
use Rattle.mcv_mend.specs.Mending.{IsMendFault, IsMendingOn, IsNotMended, IsRefusedText}
use Rattle.mcv_mend.specs.declared.fault.MendFault.{MendFault}
use Rattle.mcv_mend.specs.declared.fault.MendFault.TheVariants.{GaveUp, Limit, Run}
use Rattle.mcv_mend.specs.declared.fault.Mending.{Mending}
use Rattle.mcv_route.specs.Routes.{RoutesValue}
use Rattle.mcv_symbolic.specs.CoveredRoutes.{AreCovered}

-- a configuration that is read up to the limit is whole
named_whole : (bytes : List ℕ) (r : RoutesValue) → AreNamedBy (take read_limit bytes) r → take read_limit bytes ≡ bytes
named_whole bytes r named = let short : length (take read_limit bytes) ≤ size_limit = named.1.0 in whole read_limit bytes (omega (arith, short))

pub mending_by_all : (bytes : List ℕ) (mending : Mending) (text : List ℕ) → IsMendingOn (take read_limit bytes) mending text → IsMendingOn bytes mending text
mending_by_all bytes mending text on = subst (λ (xs : List ℕ). IsMendingOn xs mending text) (named_whole bytes on.0 on.1) on

input_fault_by_all : (bytes : List ℕ) (fault : RunFault) → IsInputFault (take read_limit bytes) fault → IsInputFault bytes fault
input_fault_by_all bytes Line is = is
input_fault_by_all bytes NoRoute is = is
input_fault_by_all bytes (Config fault) is = fault_of_known (Some bytes) (take read_limit bytes) (read_faults.Config fault) refl is
input_fault_by_all bytes (CertificateText fault) is = is
input_fault_by_all bytes (Certificate fault) is = is
input_fault_by_all bytes Window is = is
input_fault_by_all bytes Memory is = tt
input_fault_by_all bytes Device is = tt

pub fault_by_all : (bytes : List ℕ) (fault : MendFault) → IsMendFault (take read_limit bytes) fault → IsMendFault bytes fault
fault_by_all bytes (Run fault) is = input_fault_by_all bytes fault is
fault_by_all bytes (Limit fault) is = subst (λ (xs : List ℕ). IsMendFault xs (Limit fault)) (named_whole bytes is.0.0 is.0.1) is
fault_by_all bytes GaveUp is = subst (λ (xs : List ℕ). IsMendFault xs GaveUp) (named_whole bytes is.0 is.1) is

-- a configuration that isn't mended, by what its routes are
pub not_mended : (input : List ℕ) (r : RoutesValue) (fault : MendFault) → AreNamedBy input r → (AreCovered r → ⊥) → IsNotMended input fault → IsMendFault input fault
not_mended input r (Run fault) named lost is = subst (IsInputFault input) (sym is) tt
not_mended input r (Limit fault) named lost is = ((r, named, lost), is)
not_mended input r GaveUp named lost is = (r, named, lost)

-- a text that is refused is one that keeps the input
pub refused_text : (input text : List ℕ) (fault : MendFault) → IsKeptIn input text → IsRefusedText text fault → IsNotMended input fault
refused_text input text (Run fault) kept is = is
refused_text input text (Limit fault) kept is = (text, kept, is)
refused_text input text GaveUp kept is = tt

-- a fault of a text that is read is one of the input
pub reading_fault : (input : List ℕ) (fault : ReadFault) → Refuses fault (Faulty input) → IsInputFault input (of_reading fault)
reading_fault input (read_faults.Config fault) is = is
reading_fault input read_faults.Memory is = tt
