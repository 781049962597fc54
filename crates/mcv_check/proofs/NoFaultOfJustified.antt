-- What is reported of a justified certificate.
use Rattle.std.proofs.Common.{◌≡◌, List, refl, sym, ◌∙◌, subst}
use Rattle.std.proofs.lemmas.Option.{none-some}
use Rattle.mcv_cert.specs.Pair.{CertificateValue, PairValue}
use Rattle.mcv_judge.specs.Faults.{IsFirstFault}
use Rattle.mcv_route.specs.Routes.{RoutesValue}
use Rattle.mcv_blocks.specs.Blocks.{AreJustifiedPairs}
use Rattle.mcv_blocks.specs.Coverage.{OneListOfBlocks}
use Rattle.mcv_check.specs.Fault.{IsFaultOfCertificate, IsFaultOfPairs}
use Rattle.mcv_check.specs.declared.fault.CheckFault.{CheckFault}
use Rattle.mcv_check.specs.declared.fault.CheckFault.TheVariants.{Memory, Pair, Window}

-- a justified certificate has no fault
pub no_fault_of_justified : OneListOfBlocks → (r : RoutesValue) (pairs : List PairValue) → AreJustifiedPairs r pairs → (fault : CheckFault) → IsFaultOfPairs r pairs fault → fault ≡ Memory
no_fault_of_justified one r pairs justified (Pair fault) first =
    let same = one r first.0 justified.0 first.1 justified.1 in
    let first_is = subst (λ bs. IsFirstFault pairs bs fault) same first.2 in
    absurd (none-some fault (sym (justified.2 first_is.0 first_is.1) ∙ first_is.2))
no_fault_of_justified one r pairs justified Memory first = refl
no_fault_of_justified one r pairs justified Window first = absurd first

-- a fault of the pairs is one of the certificate that is for the window
pub fault_of_certificate : (r : RoutesValue) (c : CertificateValue) → c.window ≡ r.window → (fault : CheckFault) → IsFaultOfPairs r c.pairs fault → IsFaultOfCertificate r c fault
fault_of_certificate r c window (Pair fault) first = (window, first)
fault_of_certificate r c window Memory first = window
fault_of_certificate r c window Window first = absurd first
