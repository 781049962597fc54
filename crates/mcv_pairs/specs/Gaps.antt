-- Which leaves and indexes of a block have a reason, and the first that has none (own).
use Rattle.std.specs.Prelude.{All, ◌≡◌, ◌<◌, ℕ, List, Some, length, slice_get, take}
use Rattle.mcv_cert.specs.Pair.{PairValue}
use Rattle.mcv_judge.specs.Answers.{AnswersAll}
use Rattle.mcv_judge.specs.Reason.{BlockValue, HasReason, HasReasons, LegValue}
use Rattle.mcv_picks.specs.Reasons.{AreSized}

-- each leg has as many servers as its symbol has indexes
abbrev pub IsSized : List LegValue → Type 0
IsSized legs = (sizes : List ℕ) × AreSized sizes legs

-- none answers at this index of the leaf, and at each before it one does
pub record IsFirstGapOf (b : BlockValue) (leaf : LegValue) (at : ℕ) : Type 0 where
  pub index : at < length leaf.servers
  pub gap : HasReason b leaf at → ⊥
  pub before : (i : ℕ) → i < at → HasReason b leaf i

-- so it is with the readable leaf of this number, and those before it have a reason at each index
pub record IsFirstGapIn (b : BlockValue) (number at : ℕ) : Type 0 where
  pub leaf : LegValue
  pub numbered : slice_get b.readable number ≡ Some leaf
  pub first : IsFirstGapOf b leaf at
  pub before : All (HasReasons b) (take number b.readable)

-- where pairs answer blocks, each index of each readable leaf has a reason
abbrev pub AnsweredHasReasons : Type 0
AnsweredHasReasons = (blocks : List BlockValue) (pairs : List PairValue) → AnswersAll blocks pairs → All (λ b. All (HasReasons b) b.readable) blocks
