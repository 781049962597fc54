-- Which fault of a certificate is at which place. A certificate is justified where none is anywhere (own).
use Rattle.std.specs.Prelude.{◌≡◌, ◌<◌, ◌&&◌, ◌||◌, not, ℕ, Bool, List, Option, Some, None, if◌then◌else◌, length, map, nat_lt, nat_eq, find, flat_map, All, AllPairs}
use Rattle.std.specs.List.{list_any}
use Rattle.std.specs.declared.cmp.Ordering.TheVariants.{Less}
use Rattle.std.specs.Ordering.{is_eq}
use Rattle.mcv_cert.specs.Pair.{PlaceValue, PairValue, index_of, list_cmp, spot_cmp, place_cmp, index_cmp}
use Rattle.mcv_judge.specs.Reason.{LegValue, BlockValue, fault_of, is_whole}
use Rattle.mcv_judge.specs.declared.fault.PairFault.{PairFault}
use Rattle.mcv_judge.specs.declared.fault.PairFault.TheVariants.{Missing, Stray}

-- a readable leaf of a block: it requires an answer of a certificate
pub record Required : Type 0 where
  pub block : BlockValue
  pub leaf : LegValue

abbrev pub place_required : Required → PlaceValue
place_required o = record { spot = o.block.spot; leaf = o.leaf.position }

abbrev pub require : BlockValue → LegValue → Required
require b l = record { block = b; leaf = l }

abbrev pub required_by : BlockValue → List Required
required_by b = map (require b) b.readable

abbrev pub required_at : List Required → PlaceValue → Option Required
required_at os s = find (λ o. is_eq (place_cmp (place_required o) s)) os

abbrev pub pair_at : List PairValue → PlaceValue → ℕ → Option PairValue
pair_at pairs s i = find (λ r. is_eq (index_cmp r.place (index_of r.reason) s i)) pairs

-- some pair speaks of all indexes of the leaf
abbrev pub is_answered_whole : List PairValue → PlaceValue → Bool
is_answered_whole pairs s = list_any (λ r. is_whole r.reason && is_eq (place_cmp r.place s)) pairs

abbrev pub has_index : Required → ℕ → Bool
has_index o i = nat_lt i (length o.leaf.servers)

-- a readable leaf has a pair at each index, or one that speaks of all and is at index 0; beside such a one a further pair is too much, as is one where no readable leaf is or at an index that it hasn't
abbrev pub fault_there : Option Required → Option PairValue → (whole : Bool) → ℕ → Option PairFault
fault_there None None whole i = None
fault_there None (Some r) whole i = Some Stray
fault_there (Some o) None whole i = if has_index o i && not whole then Some Missing else None
fault_there (Some o) (Some r) whole i = if has_index o i && (nat_eq i 0 || not whole) then fault_of o.block o.leaf r.reason else Some Stray

-- the fault at a place, if any
abbrev pub fault_at : List PairValue → List BlockValue → PlaceValue → ℕ → Option PairFault
fault_at pairs blocks s i = fault_there (required_at (flat_map required_by blocks) s) (pair_at pairs s i) (is_answered_whole pairs s) i

abbrev pub IsFaultless : List PairValue → List BlockValue → Type 0
IsFaultless pairs blocks = (s : PlaceValue) (i : ℕ) → fault_at pairs blocks s i ≡ None

-- the fault is at some place, and none at an earlier one
abbrev pub IsFirstFault : List PairValue → List BlockValue → PairFault → Type 0
IsFirstFault pairs blocks f = (s : PlaceValue) × (i : ℕ) × (fault_at pairs blocks s i ≡ Some f) × ((t : PlaceValue) (j : ℕ) → index_cmp t j s i ≡ Less → fault_at pairs blocks t j ≡ None)

-- both have the same faults
abbrev pub HaveSameFaults : List PairValue → List BlockValue → List PairValue → List BlockValue → Type 0
HaveSameFaults pairs blocks rest later = (s : PlaceValue) (i : ℕ) → fault_at pairs blocks s i ≡ fault_at rest later s i

-- ---- what is judged comes in order

abbrev pub AreLegsRising : List LegValue → Type 0
AreLegsRising leaves = AllPairs (λ l m. list_cmp l.position m.position ≡ Less) leaves

-- its leaves rise by position, and each readable one has an index
pub record IsInOrder (b : BlockValue) : Type 0 where
  pub readable : AreLegsRising b.readable
  pub indexed : All (λ l. 0 < length l.servers) b.readable
  pub acknowledged : AreLegsRising b.acknowledged

-- the blocks rise by their spots, and each is in order
pub record AreInOrder (blocks : List BlockValue) : Type 0 where
  pub rising : AllPairs (λ b c. spot_cmp b.spot c.spot ≡ Less) blocks
  pub each : All IsInOrder blocks
