-- Where pairs answer, each index has a reason.
use Rattle.std.proofs.Common.{◌≡◌, ◌<◌, ℕ, List, [], ◌∷◌, length, get_or, Some, inl, inr, arith}
use Rattle.std.specs.Prelude.{All, slice_get}
use Rattle.std.proofs.lemmas.List.Elements.{All-cons, All-nil}
use Rattle.std.proofs.lemmas.Option.{slice_get-get_or}
use Rattle.mcv_cert.specs.Pair.{PairValue}
use Rattle.mcv_judge.specs.Answers.{AnswersEach, AnswersLeaf, AnswersLeaves}
use Rattle.mcv_judge.specs.Reason.{BlockValue, HasReason, HasReasons, LegValue}
use Rattle.mcv_pairs.specs.Gaps.{AnsweredHasReasons}

nth : {X : Type 0} (xs : List X) (i : ℕ) → i < length xs → (x : X) × (slice_get xs i ≡ Some x)
nth [] i within = absurd (let none : ⊥ = omega arith in none)
nth (x ∷ xs) i within = (get_or (x ∷ xs) i x, slice_get-get_or (x ∷ xs) i x within)

pub each_has : (b : BlockValue) (leaf : LegValue) (n : ℕ) (ps : List PairValue) → AnswersEach b leaf n ps → (i : ℕ) → i < n → HasReason b leaf i
each_has b leaf n ps h i within =
    let there = nth ps i (omega (arith, h.count)) in
    let answer = h.each i there.0 there.1 in
    (there.0.reason, inr answer.0.index, answer.0.faultless)

leaf_has : (b : BlockValue) (leaf : LegValue) (ps : List PairValue) → AnswersLeaf b leaf ps → HasReasons b leaf
leaf_has b leaf ps (inl h) i within = (h.0.reason, inl h.3, h.2.faultless)
leaf_has b leaf ps (inr h) i within = each_has b leaf (length leaf.servers) ps h i within

pub leaves_have : (b : BlockValue) (leaves : List LegValue) (ps : List PairValue) → AnswersLeaves b leaves ps → All (HasReasons b) leaves
leaves_have b [] ps h = All-nil (HasReasons b)
leaves_have b (leaf ∷ leaves) ps h = All-cons (HasReasons b) leaf leaves (leaf_has b leaf h.0 h.3) (leaves_have b leaves h.1 h.4)

pub answered_have : AnsweredHasReasons
answered_have [] ps h = All-nil (λ b. All (HasReasons b) b.readable)
answered_have (b ∷ blocks) ps h = All-cons (λ c. All (HasReasons c) c.readable) b blocks (leaves_have b b.readable h.0 h.3) (answered_have blocks h.1 h.4)
