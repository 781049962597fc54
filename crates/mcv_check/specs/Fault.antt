-- Why a certificate isn't accepted (own).
use Rattle.std.specs.Prelude.{◌≡◌, ◌≢◌, ℕ, List, ⊤}
use Rattle.mcv_cert.specs.Pair.{CertificateValue, PairValue}
use Rattle.mcv_judge.specs.Numbers.{number_of}
use Rattle.mcv_route.specs.Routes.{RoutesValue}
use Rattle.mcv_blocks.specs.Blocks.{IsFirstFaultOf}
use Rattle.mcv_check.specs.declared.fault.CheckFault.{CheckFault}
use Rattle.mcv_check.specs.declared.fault.CheckFault.TheVariants.{Memory, Pair, Window}

abbrev pub fault_number : CheckFault → ℕ
fault_number (Pair fault) = number_of fault
fault_number Memory = 6
fault_number Window = 7

-- what the fault reports of pairs: it is the first there. Memory may run out at any
abbrev pub IsFaultOfPairs : RoutesValue → List PairValue → CheckFault → Type 0
IsFaultOfPairs r pairs (Pair fault) = IsFirstFaultOf r pairs fault
IsFaultOfPairs r pairs Memory = ⊤
IsFaultOfPairs r pairs Window = ⊥

-- what the fault reports of a certificate: that it isn't for the window of the routes, and of one that is the first fault of its pairs
abbrev pub IsFaultOfCertificate : RoutesValue → CertificateValue → CheckFault → Type 0
IsFaultOfCertificate r c (Pair fault) = (c.window ≡ r.window) × IsFirstFaultOf r c.pairs fault
IsFaultOfCertificate r c Memory = c.window ≡ r.window
IsFaultOfCertificate r c Window = c.window ≢ r.window
