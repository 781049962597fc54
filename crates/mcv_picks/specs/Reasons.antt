-- The reason that a certificate gives: the first that holds in the order never, twin, same, all (own).
use Rattle.std.specs.Prelude.{All, ◌≡◌, ◌≢◌, ◌⊎◌, ℕ, Bool, true, List, Option, Some, None, if◌then◌else◌, length, map, slice_index}
use Rattle.std.specs.Option.{option_map}
use Rattle.mcv_cert.specs.Pair.{ReasonValue, never, twin, same, all, index_of}
use Rattle.mcv_judge.specs.Reason.{LegValue, BlockValue, fault_of, is_whole, server_at}
use Rattle.mcv_judge.specs.Faults.{AreLegsRising}
use Rattle.mcv_picks.specs.Picks.{IsFirstFilling, first_twin, first_with}

-- the one for all indexes of a leaf, if there is one
abbrev pub whole_reason : (can_be_acknowledged : Bool) → List LegValue → LegValue → Option ReasonValue
whole_reason can legs leaf = if can then option_map (λ d. twin d.position) (first_twin legs leaf) else Some never

-- the one at an index, where the leaf has this server, if there is one: that of the first leg that has the server at the index, or else of those that have it at all indexes of one symbol
abbrev pub IsReasonBeside : Option LegValue → List LegValue → (index server : ℕ) → Option ReasonValue → Type 0
IsReasonBeside (Some d) legs i x r = r ≡ Some (same i d.position)
IsReasonBeside None legs i x r = (found : Option (List LegValue)) × IsFirstFilling legs x found × (r ≡ option_map (λ ds. all i (map (λ d. d.position) ds)) found)

abbrev pub IsReasonAt : List LegValue → LegValue → (index server : ℕ) → Option ReasonValue → Type 0
IsReasonAt legs leaf i x r = IsReasonBeside (first_with legs leaf.symbol x i) legs i x r

-- each leg has as many servers as its symbol has indexes
abbrev pub AreSized : (sizes : List ℕ) → List LegValue → Type 0
AreSized sizes legs = All (λ d. length d.servers ≡ slice_index sizes d.symbol) legs

-- a reason that is picked has no fault
abbrev pub PickedReasonsHold : Type 0
PickedReasonsHold = (b : BlockValue) (leaf : LegValue) (r : ReasonValue) → AreLegsRising b.acknowledged →
    (whole_reason b.can_be_acknowledged b.acknowledged leaf ≡ Some r) ⊎ ((i : ℕ) × (x : ℕ) × (server_at leaf i ≡ Some x) × IsReasonAt b.acknowledged leaf i x (Some r)) → fault_of b leaf r ≡ None

-- where none is picked for a leaf and an index, every reason has a fault
abbrev pub NoOtherReasonHolds : Type 0
NoOtherReasonHolds = (sizes : List ℕ) (b : BlockValue) (leaf : LegValue) (i x : ℕ) (r : ReasonValue) → AreSized sizes b.acknowledged → server_at leaf i ≡ Some x →
    whole_reason b.can_be_acknowledged b.acknowledged leaf ≡ None → IsReasonAt b.acknowledged leaf i x None → (index_of r ≡ i) ⊎ (is_whole r ≡ true) → fault_of b leaf r ≢ None
