-- Where what can be read isn't answered for by what deletes have sent (own).
use Rattle.std.specs.Prelude.{◌≡◌, ◌<◌, ◌++◌, ℕ, All, List, length, map, slice_index, remove}
use Rattle.std.specs.List.{Contains}
use Rattle.mcv_judge.specs.PairsInMemory.{legs_of}
use Rattle.mcv_judge.specs.Reason.{LegValue}
use Rattle.mcv_picks.specs.Reasons.{AreSized}
use Rattle.mcv_gaps.specs.declared.gaps.Wanted.{Wanted}

-- one of the legs is of this symbol, and has the server at the index
pub record HasServerAt (legs : List LegValue) (symbol index server : ℕ) : Type 0 where
  pub leg : LegValue
  pub listed : Contains legs leg
  pub own : leg.symbol ≡ symbol
  pub sends : slice_index leg.servers index ≡ server

-- the symbol answers for the leaf at the index: at each of the symbol's indexes (at this one alone, if it is the leaf's own) one of the legs of the symbol has the leaf's server
abbrev pub Answers : (sizes : List ℕ) → List LegValue → LegValue → ℕ → (symbol : ℕ) → Type 0
Answers sizes legs leaf i s = (j : ℕ) → j < slice_index sizes s → (s ≡ leaf.symbol → j ≡ i) → HasServerAt legs s j (slice_index leaf.servers i)

-- some symbol does
abbrev pub IsAnsweredBy : (sizes : List ℕ) → List LegValue → LegValue → ℕ → Type 0
IsAnsweredBy sizes legs leaf i = (s : ℕ) × (s < length sizes) × Answers sizes legs leaf i s

-- at some index of the leaf none does
abbrev pub IsMissed : (sizes : List ℕ) → List LegValue → LegValue → Type 0
IsMissed sizes legs leaf = (i : ℕ) × (i < length leaf.servers) × (IsAnsweredBy sizes legs leaf i → ⊥)

-- one of the leaves is missed
abbrev pub IsOneMissed : (sizes : List ℕ) → List LegValue → List LegValue → Type 0
IsOneMissed sizes legs leaves = (leaf : LegValue) × Contains leaves leaf × IsMissed sizes legs leaf

-- what deletes of a class leave to be answered for: the legs from which a read can be answered, none where no delete is acknowledged, and those that every acknowledged delete has sent
pub record WantedValue : Type 0 where
  pub readable : List LegValue
  pub acknowledged : List LegValue

abbrev pub wanted_of : Wanted → WantedValue
wanted_of w = record { readable = legs_of w.readable.items; acknowledged = legs_of w.acknowledged.items }

abbrev pub wanteds_of : List Wanted → List WantedValue
wanteds_of ws = map wanted_of ws

-- where these legs are sent too, some leaf that can be read is missed
abbrev pub HasGap : (sizes : List ℕ) → WantedValue → List LegValue → Type 0
HasGap sizes w legs = IsOneMissed sizes (w.acknowledged ++ legs) w.readable

-- for some of them
abbrev pub HaveGap : (sizes : List ℕ) → List WantedValue → List LegValue → Type 0
HaveGap sizes ws legs = (w : WantedValue) × Contains ws w × HasGap sizes w legs

-- with these legs there is no gap, and without any one of them there is one
pub record AreLeastFor (sizes : List ℕ) (ws : List WantedValue) (legs : List LegValue) : Type 0 where
  pub enough : HaveGap sizes ws legs → ⊥
  pub each : (k : ℕ) → k < length legs → HaveGap sizes ws (remove legs k)

-- each symbol has an index, and each of the legs, and the leaf, as many servers as its symbol has indexes
pub record IsSizedLeaf (sizes : List ℕ) (legs : List LegValue) (leaf : LegValue) : Type 0 where
  pub some : All (λ n. 0 < n) sizes
  pub all : AreSized sizes legs
  pub own : length leaf.servers ≡ slice_index sizes leaf.symbol

-- each symbol has an index, and each leg (where something can be read) as many servers as its symbol has indexes
pub record AreSizedBy (sizes : List ℕ) (w : WantedValue) : Type 0 where
  pub some : All (λ n. 0 < n) sizes
  pub readable : AreSized sizes w.readable
  pub acknowledged : (leaf : LegValue) → Contains w.readable leaf → AreSized sizes w.acknowledged

abbrev pub AreAllSizedBy : (sizes : List ℕ) → List WantedValue → Type 0
AreAllSizedBy sizes ws = All (AreSizedBy sizes) ws
