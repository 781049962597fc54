-- No leg is launched twice.
use Rattle.std.proofs.Common.{◌≡◌, ◌<◌, inl, inr, cond, ℕ, zero, suc, Bool, true, false, ◌||◌, nat_eq, List, [], ◌∷◌, ◌++◌, refl, arith}
use Rattle.mcv_route.specs.Children.{joined}
use Rattle.mcv_rules.specs.declared.arrival.After.{After}
use Rattle.mcv_plan.specs.Entries.{numbers}
use Rattle.mcv_plan.specs.PastOutcomes.{IsOnce}
use Rattle.mcv_plan.specs.ReachedAnswers.{IsMerge, Own, added, answer_of, done, goes_on_after, is_hit, kept, searched}
use Rattle.mcv_plan.specs.State.{State, States, send, reply, all, in_turn, beside, on_hit, none, more, answered, answers_each, entries, entries_each, holds, sends, sends_each}
use Rattle.mcv_plan.proofs.Merges.{merge_append, merge_new, merge_same}
use Rattle.mcv_plan.proofs.PartsAreLocal.{or_left, or_right, or_cases}

-- the first has elements of the second, in their order
abbrev pub IsPart : List ℕ → List ℕ → Type 0
IsPart a b = (m : List ℕ) × IsMerge a m b

part_append : (a b c d : List ℕ) → IsPart a b → IsPart c d → IsPart (a ++ c) (b ++ d)
part_append a b c d f g = (f.0 ++ g.0, merge_append a f.0 b c g.0 d f.1 g.1)

part_if : (t : Bool) (a b : List ℕ) → IsPart a b → IsPart (cond t a []) b
part_if true a b f = f
part_if false a b f = (b, merge_new b)

mutual
  pub sends_part : (o : Own) (s : State) → IsPart (sends o s) (entries s)
  sends_part o (send e) = ([], merge_same (e ∷ []))
  sends_part o (reply f) = ([], done)
  sends_part o (all ends ss waiting worst) = each_part o ss
  sends_part o (in_turn w ends ss current) = search_part w o ss
  sends_part o (beside ends ss) = each_part o ss
  sends_part o (on_hit s end u) = part_append (sends o s) (entries s) (cond (is_hit (answer_of (answered o s))) (sends o u) []) (entries u) (sends_part o s) (part_if (is_hit (answer_of (answered o s))) (sends o u) (entries u) (sends_part o u))

  each_part : (o : Own) (ss : States) → IsPart (joined (sends_each o ss)) (joined (entries_each ss))
  each_part o none = ([], done)
  each_part o (more s ss) = part_append (sends o s) (entries s) (joined (sends_each o ss)) (joined (entries_each ss)) (sends_part o s) (each_part o ss)

  search_part : (w : After) (o : Own) (ss : States) → IsPart (searched w (answers_each o ss) (sends_each o ss)) (joined (entries_each ss))
  search_part w o none = ([], done)
  search_part w o (more s ss) =
      part_append (sends o s) (entries s) (cond (goes_on_after w (answer_of (answered o s))) (searched w (answers_each o ss) (sends_each o ss)) []) (joined (entries_each ss)) (sends_part o s)
      (part_if (goes_on_after w (answer_of (answered o s))) (searched w (answers_each o ss) (sends_each o ss)) (joined (entries_each ss)) (search_part w o ss))

-- those of the first list are in the whole
pub first_within : (k : ℕ) (a m b : List ℕ) → IsMerge a m b → holds k a ≡ true → holds k b ≡ true
first_within k a m b done h = h
first_within k a m b (kept j x y z f) h = elim (or_cases (nat_eq j k) (holds k x) h) as (λ _. (nat_eq j k || holds k z) ≡ true) [
  | inl e ↦ or_left (nat_eq j k) (holds k z) e
  | inr e ↦ or_right (nat_eq j k) (holds k z) (first_within k x y z f e)
]
first_within k a m b (added j x y z f) h = or_right (nat_eq j k) (holds k z) (first_within k x y z f h)

pub second_within : (k : ℕ) (a m b : List ℕ) → IsMerge a m b → holds k m ≡ true → holds k b ≡ true
second_within k a m b done h = h
second_within k a m b (kept j x y z f) h = or_right (nat_eq j k) (holds k z) (second_within k x y z f h)
second_within k a m b (added j x y z f) h = elim (or_cases (nat_eq j k) (holds k y) h) as (λ _. (nat_eq j k || holds k z) ≡ true) [
  | inl e ↦ or_left (nat_eq j k) (holds k z) e
  | inr e ↦ or_right (nat_eq j k) (holds k z) (second_within k x y z f e)
]

absent : (k : ℕ) (a b : List ℕ) (t : Bool) → (holds k a ≡ true → holds k b ≡ true) → holds k b ≡ false → holds k a ≡ t → t ≡ false
absent k a b true f off on = let h = f on in absurd (cc)
absent k a b false f off on = refl

once_first : (a m b : List ℕ) → IsMerge a m b → IsOnce b → IsOnce a
once_first a m b done h = h
once_first a m b (kept k x y z f) h = (absent k x z (holds k x) (first_within k x y z f) h.0 refl, once_first x y z f h.1)
once_first a m b (added k x y z f) h = once_first x y z f h.1

-- an element of both lists would be in the whole twice
pub apart : (a m b : List ℕ) → IsMerge a m b → IsOnce b → (j k : ℕ) → holds j a ≡ true → holds k m ≡ true → nat_eq j k ≡ false
apart a m b done h j k i g = absurd (cc)
apart a m b (kept x p q r f) h j k i g = elim (or_cases (nat_eq x j) (holds j p) i) as (λ _. nat_eq j k ≡ false) [
  | inl e ↦ let x_is : x ≡ j = grind (arith, e) in off_by x j k (nat_eq j k) x_is h.0 (second_within k p q r f g) refl
  | inr e ↦ apart p q r f h.1 j k e g
]
  where
    off_by : (x j k : ℕ) (t : Bool) → x ≡ j → holds x r ≡ false → holds k r ≡ true → nat_eq j k ≡ t → t ≡ false
    off_by x j k true is off on e = let same : x ≡ k = grind (arith, is, e) in let both : holds x r ≡ true = rw same on in absurd (cc)
    off_by x j k false is off on e = refl
apart a m b (added x p q r f) h j k i g = elim (or_cases (nat_eq x k) (holds k q) g) as (λ _. nat_eq j k ≡ false) [
  | inl e ↦ let x_is : x ≡ k = grind (arith, e) in off_by x j k (nat_eq j k) x_is h.0 (first_within j p q r f i) refl
  | inr e ↦ apart p q r f h.1 j k i e
]
  where
    off_by : (x j k : ℕ) (t : Bool) → x ≡ k → holds x r ≡ false → holds j r ≡ true → nat_eq j k ≡ t → t ≡ false
    off_by x j k true is off on e = let same : x ≡ j = grind (arith, is, e) in let both : holds x r ≡ true = rw same on in absurd (cc)
    off_by x j k false is off on e = refl

below_numbers : (n from k : ℕ) → k < from → holds k (numbers from n) ≡ false
below_numbers zero from k h = refl
below_numbers (suc n) from k h = let off : nat_eq from k ≡ false = grind (arith, h) in rw off (below_numbers n (suc from) k (omega (arith, h)))

once_numbers : (n from : ℕ) → IsOnce (numbers from n)
once_numbers zero from = tt
once_numbers (suc n) from = (below_numbers n (suc from) from (omega arith), once_numbers n (suc from))

pub once_entries : (s : State) (from n : ℕ) → entries s ≡ numbers from n → IsOnce (entries s)
once_entries s from n e = rw e (once_numbers n from)

pub launched_once : (o : Own) (s : State) (from n : ℕ) → entries s ≡ numbers from n → IsOnce (sends o s)
launched_once o s from n e = let f = sends_part o s in once_first (sends o s) f.0 (entries s) f.1 (once_entries s from n e)
