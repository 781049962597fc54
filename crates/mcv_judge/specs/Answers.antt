-- Pairs that answer what blocks require, leaf after leaf and block after block: how certificates are made (own).
use Rattle.std.specs.Prelude.{◌≡◌, ◌⊎◌, ◌++◌, ◌∷◌, [], ℕ, true, false, List, Some, None, length, slice_get}
use Rattle.mcv_cert.specs.Pair.{AreRising, PairValue, index_of}
use Rattle.mcv_judge.specs.Reason.{LegValue, BlockValue, fault_of, is_whole}
use Rattle.mcv_judge.specs.Faults.{AreInOrder, IsFaultless, place_required, require}

-- the pair is at the leaf, speaks of the index, and its reason has no fault
pub record IsAnswer (b : BlockValue) (leaf : LegValue) (i : ℕ) (p : PairValue) : Type 0 where
  pub place : p.place ≡ place_required (require b leaf)
  pub index : index_of p.reason ≡ i
  pub faultless : fault_of b leaf p.reason ≡ None

-- one pair answers for all indexes of the leaf
abbrev pub AnswersAtOnce : BlockValue → LegValue → List PairValue → Type 0
AnswersAtOnce b leaf ps = (p : PairValue) × (ps ≡ p ∷ []) × IsAnswer b leaf 0 p × (is_whole p.reason ≡ true)

-- each of the first n indexes has a pair of its own, in their order
pub record AnswersEach (b : BlockValue) (leaf : LegValue) (n : ℕ) (ps : List PairValue) : Type 0 where
  pub count : length ps ≡ n
  pub each : (i : ℕ) (p : PairValue) → slice_get ps i ≡ Some p → IsAnswer b leaf i p × (is_whole p.reason ≡ false)

abbrev pub AnswersLeaf : BlockValue → LegValue → List PairValue → Type 0
AnswersLeaf b leaf ps = AnswersAtOnce b leaf ps ⊎ AnswersEach b leaf (length leaf.servers) ps

-- the pairs are those of the first, followed by those of the others
abbrev pub AreInTurn : {X : Type 0} → (X → List PairValue → Type 0) → List X → List PairValue → Type 0
AreInTurn P [] ps = ps ≡ []
AreInTurn P (x ∷ xs) ps = (own : List PairValue) × (others : List PairValue) × (ps ≡ own ++ others) × P x own × AreInTurn P xs others

abbrev pub AnswersLeaves : BlockValue → List LegValue → List PairValue → Type 0
AnswersLeaves b leaves ps = AreInTurn (AnswersLeaf b) leaves ps

abbrev pub AnswersBlock : BlockValue → List PairValue → Type 0
AnswersBlock b ps = AnswersLeaves b b.readable ps

abbrev pub AnswersAll : List BlockValue → List PairValue → Type 0
AnswersAll blocks ps = AreInTurn AnswersBlock blocks ps

-- pairs that answer all that is required rise, and no fault is in them
abbrev pub AnsweredIsFaultless : Type 0
AnsweredIsFaultless = (blocks : List BlockValue) (ps : List PairValue) → AreInOrder blocks → AnswersAll blocks ps → AreRising ps × IsFaultless ps blocks
