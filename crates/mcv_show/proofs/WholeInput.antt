-- What is said of the first bytes of an input is said of all of it.
use Rattle.std.proofs.Common.{◌≡◌, ◌≢◌, ◌∙◌, ◌⊎◌, inl, inr, ◌<◌, ◌≤◌, ℕ, List, Option, Some, None, IfSome, arith, length, take, subst, sym}
use Rattle.mcv_config.specs.Config.{Faulty, size_limit}
use Rattle.mcv_input.proofs.FirstBytes.{fault_of_known, named_by_all, read_limit, whole}
use Rattle.mcv_input.specs.Fault.{AreNamedBy, IsInputFault, IsOutside, of_reading}
use Rattle.mcv_input.specs.declared.fault.RunFault.{RunFault}
use Rattle.mcv_input.specs.declared.fault.RunFault.TheVariants.{Line, NoRoute, Config, CertificateText, Certificate, Window, Memory, Device}
use Rattle.mcv_names.specs.Fault.{Refuses}
use Rattle.mcv_names.specs.declared.fault.ReadFault.{ReadFault}
use Rattle.mcv_names.specs.declared.fault.ReadFault.TheVariants as read_faults
use Rattle.mcv_places.specs.Document.{HasNoDocument}
use Rattle.mcv_route.specs.Routes.{RoutesValue}
use Rattle.mcv_verdict.specs.Fault.{IsRunFault}
use Rattle.mcv_verdict.specs.declared.verdict.Verdict.{Verdict}
use Rattle.mcv_show.specs.Explained.{IsExplainedOn}
use Rattle.mcv_show.specs.Reported.{IsFaultText, IsReportedOn}

-- what refuses a text is a fault of it
pub refused_input : (text : List ℕ) (fault : ReadFault) → Refuses fault (Faulty text) → IsInputFault text (of_reading fault)
refused_input text (read_faults.Config fault) is = is
refused_input text read_faults.Memory is = tt

-- a text that names routes is JSON
pub named_has_document : (text : List ℕ) (r : RoutesValue) → AreNamedBy text r → HasNoDocument text → ⊥
named_has_document text r named none =
    let names = named.1 in
    let json = names.3 in
    none json.0 (names.1, names.2, (json.1, json.2))

-- a configuration that names routes is within the limit, so all of it was read
pub explained_whole : (window : ℕ) (first bytes : List ℕ) (certificate : Option (List ℕ)) (verdict : Verdict) (text : List ℕ) → first ≡ take read_limit bytes
    → IsExplainedOn first window certificate verdict text → IsExplainedOn bytes window certificate verdict text
explained_whole window first bytes certificate verdict text is on =
    let short : length first ≤ size_limit = on.1.1.0 in
    let cut : length (take read_limit bytes) < read_limit = subst (λ (xs : List ℕ). length xs < read_limit) is (omega arith) in
    subst (λ (xs : List ℕ). IsExplainedOn xs window certificate verdict text) (is ∙ whole read_limit bytes cut) on

pub reported_whole : (window : ℕ) (first bytes : List ℕ) (certificate : Option (List ℕ)) (verdict : Verdict) (text : List ℕ) → first ≡ take read_limit bytes
    → IsReportedOn first window certificate verdict text → IsReportedOn bytes window certificate verdict text
reported_whole window first bytes certificate verdict text is on =
    let short : length first ≤ size_limit = on.1.1.0 in
    let cut : length (take read_limit bytes) < read_limit = subst (λ (xs : List ℕ). length xs < read_limit) is (omega arith) in
    subst (λ (xs : List ℕ). IsReportedOn xs window certificate verdict text) (is ∙ whole read_limit bytes cut) on

-- .. where it is known which the input is
pub reported_known : (known : Option (List ℕ)) (window : ℕ) (first : List ℕ) (certificate : Option (List ℕ)) (verdict : Verdict) (text : List ℕ)
    → IfSome known (λ bytes. first ≡ take read_limit bytes) → IsReportedOn first window certificate verdict text
    → IfSome known (λ input. IsReportedOn input window certificate verdict text)
reported_known None window first certificate verdict text read on = tt
reported_known (Some bytes) window first certificate verdict text read on = reported_whole window first bytes certificate verdict text read on

named_whole : (first bytes : List ℕ) (r : RoutesValue) → first ≡ take read_limit bytes → AreNamedBy first r → AreNamedBy bytes r
named_whole first bytes r is named = named_by_all bytes r (subst (λ (xs : List ℕ). AreNamedBy xs r) is named)

-- a fault of what was read is one of the whole input
pub run_fault_whole : (first bytes : List ℕ) (window : ℕ) (certificate : Option (List ℕ)) (fault : RunFault) → first ≡ take read_limit bytes → IsRunFault first window certificate fault
    → IsRunFault bytes window certificate fault
run_fault_whole first bytes window certificate Line is holds = holds
run_fault_whole first bytes window certificate NoRoute is holds = holds
run_fault_whole first bytes window certificate (Config fault) is holds = fault_of_known (Some bytes) first (read_faults.Config fault) is holds
run_fault_whole first bytes window certificate (CertificateText fault) is holds = (holds.0, named_whole first bytes holds.0 is holds.1, holds.2)
run_fault_whole first bytes window certificate (Certificate fault) is holds = (holds.0, named_whole first bytes holds.0 is holds.1, holds.2)
run_fault_whole first bytes window certificate Window is holds = (holds.0, named_whole first bytes holds.0 is holds.1, holds.2)
run_fault_whole first bytes window certificate Memory is holds = tt
run_fault_whole first bytes window certificate Device is holds = tt

-- the fault of a run, or what came in reporting it
pub reported_fault : (input : List ℕ) (window : ℕ) (certificate : Option (List ℕ)) (fault found : RunFault) → (found ≡ fault) ⊎ IsOutside found → IsRunFault input window certificate fault
    → IsRunFault input window certificate found
reported_fault input window certificate fault found (inl same) is = subst (λ (f : RunFault). IsRunFault input window certificate f) (sym same) is
reported_fault input window certificate fault found (inr (inl memory)) is = subst (λ (f : RunFault). IsRunFault input window certificate f) (sym memory) tt
reported_fault input window certificate fault found (inr (inr device)) is = subst (λ (f : RunFault). IsRunFault input window certificate f) (sym device) tt

-- what is no fault of what was read came from outside
pub not_outside : (fault : RunFault) → IsOutside fault → fault ≢ Memory → fault ≢ Device → ⊥
not_outside fault (inl memory) no_memory no_device = no_memory memory
not_outside fault (inr device) no_memory no_device = no_device device

-- the text reports the fault that is told, where no device failed
pub reported_text : (input : List ℕ) (fault found : RunFault) (text : List ℕ) → (found ≡ fault) ⊎ (found ≡ Device) → found ≢ Device → IsFaultText input fault text → IsFaultText input found text
reported_text input fault found text (inl same) no_device said = subst (λ (f : RunFault). IsFaultText input f text) (sym same) said
reported_text input fault found text (inr device) no_device said = absurd (no_device device)
