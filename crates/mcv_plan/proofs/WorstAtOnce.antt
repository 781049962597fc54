-- The worst of replies that are there at once, one after another: of equal ones the last.
use Rattle.std.proofs.Common.{◌≡◌, ◌<◌, ◌+◌, cond, ℕ, Bool, true, false, ◌&&◌, ◌||◌, nat_lt, nat_le, List, [], ◌∷◌, length, drop, get_or, Option, Some, None, refl, sym, ap, ◌∙◌, arith}
use Rattle.std.specs.Prelude.{◌==◌}
use Rattle.mcv_plan.specs.declared.answer.Answer.{Answer}
use Rattle.mcv_plan.specs.declared.course.Course.{Course}
use Rattle.mcv_plan.specs.ReachedAnswers.{IsBefore, Reached, answer_of, came_of, join, later, missing_in, nothing, over, prevails, waits, weight, worse_of}
use Rattle.mcv_plan.specs.State.{States, answered, answered_each, replies_at_once}
use Rattle.mcv_plan.specs.View.{seen, view}
use Rattle.mcv_plan.proofs.ArrivalsAgree.{join_assoc}
use Rattle.mcv_plan.proofs.Lists.{AreBefore, each_before}
use Rattle.mcv_plan.proofs.Waves.{next}

-- the worst so far, and then these
abbrev pub worst_from : Option Answer → List (Option Reached) → Option Answer
worst_from w [] = w
worst_from w (None ∷ xs) = worst_from w xs
worst_from w (Some a ∷ xs) = worst_from (Some (over w a.answer)) xs

later_at_once : (a b : Reached) → a.came < 1 → b.came < 1 → (later a b).answer ≡ over (Some a.answer) b.answer
later_at_once a b h g = by_badness (nat_le (weight a) (weight b)) refl
  where
    by_badness : (t : Bool) → nat_le (weight a) (weight b) ≡ t → (later a b).answer ≡ cond t b.answer a.answer
    by_badness true e = let on : (nat_lt (weight a) (weight b) || ((weight a == weight b) && nat_le a.came b.came)) ≡ true = grind (arith, e, h, g) in rw on refl
    by_badness false e = let off : (nat_lt (weight a) (weight b) || ((weight a == weight b) && nat_le a.came b.came)) ≡ false = grind (arith, e) in rw off refl

later_before : (a b : Reached) → a.came < 1 → b.came < 1 → (later a b).came < 1
later_before a b h g = elim (nat_lt (weight a) (weight b) || ((weight a == weight b) && nat_le a.came b.came)) as (λ t. (cond t b a).came < 1) [
  | true ↦ g
  | false ↦ h
]

abbrev pub fold_join : Option Reached → List (Option Reached) → Option Reached
fold_join x [] = x
fold_join x (y ∷ ys) = fold_join (join x y) ys

join_none : (x : Option Reached) → join x None ≡ x
join_none None = refl
join_none (Some a) = refl

pub fold_join_is : (x : Option Reached) (xs : List (Option Reached)) → fold_join x xs ≡ join x (prevails xs)
fold_join_is x [] = sym (join_none x)
fold_join_is x (y ∷ ys) = fold_join_is (join x y) ys ∙ join_assoc x y (prevails ys)

pub worst_folds : (x : Option Reached) (xs : List (Option Reached)) → came_of x < 1 → AreBefore 1 xs → worst_from (answer_of x) xs ≡ answer_of (fold_join x xs)
worst_folds x [] h f = refl
worst_folds x (None ∷ xs) h f = worst_folds x xs h f.1 ∙ ap (λ z. answer_of (fold_join z xs)) (sym (join_none x))
worst_folds None (Some b ∷ xs) h f = worst_folds (Some b) xs f.0 f.1
worst_folds (Some a) (Some b ∷ xs) h f =
    ap (λ z. worst_from (Some z) xs) (sym (later_at_once a b h f.0)) ∙ worst_folds (Some (later a b)) xs (later_before a b h f.0) f.1

before_any : IsBefore nothing 1
before_any k = grind arith

-- the worst of all children's replies at once
pub worst_prevails : (ss : States) → worst_from None (answered_each nothing ss) ≡ answer_of (prevails (answered_each nothing ss))
worst_prevails ss = let xs = answered_each nothing ss in worst_folds None xs (omega arith) (each_before nothing 1 ss before_any) ∙ ap answer_of (fold_join_is None xs)

worst_step : (w : Option Answer) (x : Option Reached) (xs : List (Option Reached)) (r : Option Answer) → r ≡ answer_of x → worst_from w (x ∷ xs) ≡ worst_from (worse_of w r) xs
worst_step w None xs r e = rw e refl
worst_step w (Some a) xs r e = rw e refl

-- one child more
pub worst_on : (cs : List Course) (i : ℕ) (p : Course) (w w2 r all : Option Answer) → i < length cs → p ≡ get_or cs i p → r ≡ replies_at_once (view p) → w2 ≡ worse_of w r
    → worst_from w (answered_each nothing (seen (drop i cs))) ≡ all → worst_from w2 (answered_each nothing (seen (drop (i + 1) cs))) ≡ all
worst_on cs i p w w2 r all h is e f inv =
    let more = answered_each nothing (seen (drop (i + 1) cs)) in
    let here : worst_from w (answered nothing (view p) ∷ more) ≡ all = (rw (next cs i p h is) at inv) in
    ap (λ z. worst_from z more) f ∙ sym (worst_step w (answered nothing (view p)) more r e) ∙ here

waits_step : (x : Option Reached) (xs : List (Option Reached)) (r : Option Answer) → r ≡ answer_of x → waits (x ∷ xs) ≡ missing_in r + waits xs
waits_step None xs r e = rw e (omega arith)
waits_step (Some a) xs r e = rw e (omega arith)

pub waits_on : (cs : List Course) (i : ℕ) (p : Course) (n m all : ℕ) (r : Option Answer) → i < length cs → p ≡ get_or cs i p → r ≡ replies_at_once (view p) → m ≡ missing_in r
    → n + waits (answered_each nothing (seen (drop i cs))) ≡ all → (n + m) + waits (answered_each nothing (seen (drop (i + 1) cs))) ≡ all
waits_on cs i p n m all r h is e f inv =
    let more = answered_each nothing (seen (drop (i + 1) cs)) in
    let here : n + waits (answered nothing (view p) ∷ more) ≡ all = (rw (next cs i p h is) at inv) in
    omega (arith, here, waits_step (answered nothing (view p)) more r e, f)
