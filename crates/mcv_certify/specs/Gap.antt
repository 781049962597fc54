-- Where a delete can be lost (own).
use Rattle.std.specs.Prelude.{◌≡◌, ◌<◌, ℕ, Some}
use Rattle.std.specs.List.{All, Contains}
use Rattle.std.specs.declared.cmp.Ordering.TheVariants.{Less}
use Rattle.mcv_cert.specs.Pair.{PlaceValue, index_cmp, place_of}
use Rattle.mcv_judge.specs.Faults.{place_required, require}
use Rattle.mcv_judge.specs.Reason.{BlockValue, HasReason, LegValue, server_at}
use Rattle.mcv_route.specs.Routes.{IsSoundRoutes, RoutesValue}
use Rattle.mcv_symbolic.specs.CoveredRoutes.{AreCovered, sizes_of}
use Rattle.mcv_blocks.specs.Blocks.{IsBlockOf}
use Rattle.mcv_certify.specs.declared.gap.Gap.{Gap}
use Rattle.mcv_certify.specs.declared.gap.CertifyFault.{CertifyFault}
use Rattle.mcv_certify.specs.declared.gap.CertifyFault.TheVariants.{Lost, Memory}

-- a leaf that can be read is at the place and has the server at the index, and no reason says that each acknowledged delete was sent to it
pub record IsGap (r : RoutesValue) (s : PlaceValue) (i server : ℕ) : Type 0 where
  pub block : BlockValue
  pub leaf : LegValue
  pub block_is : IsBlockOf r block
  pub readable : Contains block.readable leaf
  pub placed : place_required (require block leaf) ≡ s
  pub has : server_at leaf i ≡ Some server
  pub unanswered : HasReason block leaf i → ⊥

-- and there is none at an earlier place, or at an earlier index of this one
pub record IsFirstGap (r : RoutesValue) (s : PlaceValue) (i server : ℕ) : Type 0 where
  pub gap : IsGap r s i server
  pub first : (t : PlaceValue) (j other : ℕ) → index_cmp t j s i ≡ Less → IsGap r t j other → ⊥

-- what is reported as lost is the first gap
abbrev pub IsRightFault : RoutesValue → CertifyFault → Type 0
IsRightFault r (Lost f) = IsFirstGap r (place_of f.place) f.at f.server.0
IsRightFault r Memory = Unit {0}

-- what holds of the gap, if there is one
abbrev pub IfLost : CertifyFault → (Gap → Type 0) → Type 0
IfLost (Lost f) P = P f
IfLost Memory P = Unit {0}

-- routes with a gap aren't covered. Each symbol has an index (else there would be no choice at all), and class words are of bytes
abbrev pub GapIsLoss : Type 0
GapIsLoss = (r : RoutesValue) (s : PlaceValue) (i server : ℕ) → IsSoundRoutes r → All (λ n. 0 < n) (sizes_of r) → All (λ c. c < 256) s.spot.class → IsGap r s i server → AreCovered r → ⊥
