-- Several parts of a plan, of which one has answered more.
use Rattle.std.proofs.Common.{◌≡◌, ◌<◌, inl, inr, cond, max, ℕ, zero, suc, Bool, true, false, nat_le, List, [], ◌∷◌, ◌++◌, Option, Some, None, option_map, refl, sym, ap, ap₂, ◌∙◌, arith}
use Rattle.std.specs.Prelude.{◌==◌, slice_get, slice_set}
use Rattle.mcv_base.specs.declared.reply.Outcome.{Outcome}
use Rattle.mcv_route.specs.Children.{joined}
use Rattle.mcv_rules.specs.declared.arrival.After.{After}
use Rattle.mcv_plan.specs.declared.answer.Answer.{Answer}
use Rattle.mcv_plan.specs.ReachedAnswers.{Own, Reached, IsBefore, IsMerge, Changes, ChangesAt, put, reached, answer_of, all_answered, at, came_of, goes_on, goes_on_after, is_hit, join, last_came, over, prevails, search_from, search_answered, searched, waits, weight, first_answered}
use Rattle.mcv_plan.specs.State.{State, States, send, reply, all, in_turn, beside, on_hit, none, more, states_of, IsOnlyIn, Reflects, ReflectEach, answers_each, entries, entries_each, holds, plan, plan_each, sends, sends_each, answered, answered_each}
use Rattle.mcv_plan.proofs.PartsAreLocal.{agree_put, reflect_local_each, reflects_local, answered_local, answered_local_each, answered_plan_each, sends_local, sends_local_each, holds_left, holds_right, holds_cases}
use Rattle.mcv_plan.proofs.Merges.{merge_before, merge_behind}

-- ---- when

abbrev pub AreBefore : ℕ → List (Option Reached) → Type 0
AreBefore t [] = Unit {0}
AreBefore t (x ∷ xs) = (came_of x < t) × AreBefore t xs

pub last_before : (t : ℕ) (xs : List (Option Reached)) → 0 < t → AreBefore t xs → last_came xs < t
last_before t [] p b = p
last_before t (x ∷ xs) p b = let m = last_before t xs p b.1 in grind (arith, m, b.0)

at_before : (t n : ℕ) (x : Option Reached) → 0 < t → n < t → came_of (option_map (at n) x) < t
at_before t n None p h = p
at_before t n (Some a) p h = h

all_before : (t : ℕ) (xs : List (Option Reached)) → 0 < t → AreBefore t xs → came_of (all_answered xs) < t
all_before t xs p b = elim (waits xs == 0) as (λ c. came_of (cond c (option_map (at (last_came xs)) (prevails xs)) None) < t) [
  | true ↦ at_before t (last_came xs) (prevails xs) p (last_before t xs p b)
  | false ↦ p
]

max_before : (t n : ℕ) (y : Option Reached) → 0 < t → n < t → came_of y < t → came_of (option_map (λ b. at (max n b.came) b) y) < t
max_before t n None p h f = p
max_before t n (Some b) p h f = grind (arith, h, f)

pub search_before : (t : ℕ) (w : After) (x : Option Reached) (xs : List (Option Reached)) → 0 < t → came_of x < t → AreBefore t xs → came_of (search_from w x xs) < t
search_before t w x [] p h b = h
search_before t w None (y ∷ ys) p h b = p
search_before t w (Some a) (y ∷ ys) p h b = elim (goes_on w a.answer.outcome) as (λ c. came_of (cond c (option_map (λ b. at (max a.came b.came) b) (search_from w y ys)) (Some a)) < t) [
  | true ↦ max_before t a.came (search_from w y ys) p h (search_before t w y ys p b.0 b.1)
  | false ↦ h
]

search_answered_before : (t : ℕ) (w : After) (xs : List (Option Reached)) → 0 < t → AreBefore t xs → came_of (search_answered w xs) < t
search_answered_before t w [] p b = p
search_answered_before t w (x ∷ xs) p b = search_before t w x xs p b.0 b.1

first_before : (t : ℕ) (xs : List (Option Reached)) → 0 < t → AreBefore t xs → came_of (first_answered xs) < t
first_before t [] p b = p
first_before t (x ∷ xs) p b = b.0

pub positive : (o : Own) (t : ℕ) → IsBefore o t → 0 < t
positive o t b = let h = b 0 in grind (arith, h)

mutual
  pub answered_before : (o : Own) (t : ℕ) (s : State) → IsBefore o t → came_of (answered o s) < t
  answered_before o t (send e) b = let h = b e in grind (arith, h)
  answered_before o t (reply f) b = positive o t b
  answered_before o t (all ends ss waiting worst) b = all_before t (answered_each o ss) (positive o t b) (each_before o t ss b)
  answered_before o t (in_turn w ends ss current) b = search_answered_before t w (answered_each o ss) (positive o t b) (each_before o t ss b)
  answered_before o t (beside ends ss) b = first_before t (answered_each o ss) (positive o t b) (each_before o t ss b)
  answered_before o t (on_hit s end u) b = answered_before o t s b

  pub each_before : (o : Own) (t : ℕ) (ss : States) → IsBefore o t → AreBefore t (answered_each o ss)
  each_before o t none b = tt
  each_before o t (more s ss) b = (answered_before o t s b, each_before o t ss b)

-- ---- one child has answered more

pub some_same : (s u : State) → Some s ≡ Some u → s ≡ u
some_same s u e = cc

pub plan_set : (ss : List State) (i : ℕ) (was u : State) → slice_get ss i ≡ Some was → plan u ≡ plan was → plan_each (states_of (slice_set ss i u)) ≡ plan_each (states_of ss)
plan_set [] i was u h e = refl
plan_set (s ∷ ss) zero was u h e = ap (λ x. more x (plan_each (states_of ss))) (e ∙ ap plan (sym (some_same s was h)))
plan_set (s ∷ ss) (suc i) was u h e = ap (λ x. more (plan s) x) (plan_set ss i was u h e)

pub answered_same : (o : Own) (ss us : States) → plan_each us ≡ plan_each ss → answered_each o us ≡ answered_each o ss
answered_same o ss us e = sym (answered_plan_each o us) ∙ ap (answered_each o) e ∙ answered_plan_each o ss

module _ (o : Own) (e : ℕ) (r : Reached) where
  pub answered_set : (ss : List State) (i : ℕ) (was : State) → slice_get ss i ≡ Some was → IsOnlyIn e i (entries_each (states_of ss))
      → answered_each (put o e r) (states_of ss) ≡ slice_set (answered_each o (states_of ss)) i (answered (put o e r) was)
  answered_set [] i was h only = refl
  answered_set (s ∷ ss) zero was h only =
      ap₂ (λ x xs. x ∷ xs) (ap (answered (put o e r)) (some_same s was h)) (sym (answered_local_each o (put o e r) (states_of ss) (agree_put o e r (joined (entries_each (states_of ss))) only.1)))
  answered_set (s ∷ ss) (suc i) was h only = ap₂ (λ x xs. x ∷ xs) (sym (answered_local o (put o e r) s (agree_put o e r (entries s) only.0))) (answered_set ss i was h only.1)

  pub reflect_set : (ss : List State) (i : ℕ) (u : State) → IsOnlyIn e i (entries_each (states_of ss)) → Reflects (put o e r) u → ReflectEach o (states_of ss) → ReflectEach (put o e r) (states_of (slice_set ss i u))
  reflect_set [] i u only f s = s
  reflect_set (s ∷ ss) zero u only f g = (f, reflect_local_each o (put o e r) (states_of ss) (agree_put o e r (joined (entries_each (states_of ss))) only.1) g.1)
  reflect_set (s ∷ ss) (suc i) u only f g = (reflects_local o (put o e r) s (agree_put o e r (entries s) only.0) g.0, reflect_set ss i u only.1 f g.1)

  pub merge_set : (ss : List State) (i : ℕ) (was : State) (ks : List ℕ) → slice_get ss i ≡ Some was → IsOnlyIn e i (entries_each (states_of ss))
      → IsMerge (sends o was) ks (sends (put o e r) was) → IsMerge (joined (sends_each o (states_of ss))) ks (joined (sends_each (put o e r) (states_of ss)))
  merge_set [] i was ks h only m = absurd only
  merge_set (s ∷ ss) zero was ks h only m =
      rw (some_same s was h, ← sends_local_each o (put o e r) (states_of ss) (agree_put o e r (joined (entries_each (states_of ss))) only.1))
      (merge_before (sends o was) ks (sends (put o e r) was) (joined (sends_each o (states_of ss))) m)
  merge_set (s ∷ ss) (suc i) was ks h only m =
      rw (← sends_local o (put o e r) s (agree_put o e r (entries s) only.0))
      (merge_behind (joined (sends_each o (states_of ss))) ks (joined (sends_each (put o e r) (states_of ss))) (sends o s) (merge_set ss i was ks h only.1 m))

pub reflects_at : (o : Own) (ss : List State) (i : ℕ) (was : State) → slice_get ss i ≡ Some was → ReflectEach o (states_of ss) → Reflects o was
reflects_at o [] i was h f = absurd (cc)
reflects_at o (s ∷ ss) zero was h f = rw (← some_same s was h) f.0
reflects_at o (s ∷ ss) (suc i) was h f = reflects_at o ss i was h f.1

pub answered_at : (o : Own) (ss : List State) (i : ℕ) (was : State) → slice_get ss i ≡ Some was → slice_get (answered_each o (states_of ss)) i ≡ Some (answered o was)
answered_at o [] i was h = absurd (cc)
answered_at o (s ∷ ss) zero was h = ap (λ x. Some (answered o x)) (some_same s was h)
answered_at o (s ∷ ss) (suc i) was h = answered_at o ss i was h

pub set_same : {A : Type 0} (xs : List A) (i : ℕ) (x : A) → slice_get xs i ≡ Some x → slice_set xs i x ≡ xs
set_same [] i x h = refl
set_same (y ∷ ys) zero x h = let e : y ≡ x = cc in ap (λ z. z ∷ ys) (sym e)
set_same (y ∷ ys) (suc i) x h = ap (λ zs. y ∷ zs) (set_same ys i x h)

-- ---- what is sent is of the plan

pub within_if : (b : Bool) (k : ℕ) (xs ys : List ℕ) → (holds k xs ≡ true → holds k ys ≡ true) → holds k (cond b xs []) ≡ true → holds k ys ≡ true
within_if true k xs ys f h = f h
within_if false k xs ys f h = absurd (cc)

pub within_both : (k : ℕ) (xs ys as2 bs : List ℕ) → (holds k xs ≡ true → holds k as2 ≡ true) → (holds k ys ≡ true → holds k bs ≡ true) → holds k (xs ++ ys) ≡ true → holds k (as2 ++ bs) ≡ true
within_both k xs ys as2 bs f g h = elim (holds_cases k xs ys h) as (λ _. holds k (as2 ++ bs) ≡ true) [
  | inl p ↦ holds_left k as2 bs (f p)
  | inr p ↦ holds_right k as2 bs (g p)
]

mutual
  pub sends_within : (o : Own) (k : ℕ) (s : State) → holds k (sends o s) ≡ true → holds k (entries s) ≡ true
  sends_within o k (send e) h = h
  sends_within o k (reply f) h = h
  sends_within o k (all ends ss waiting worst) h = each_within o k ss h
  sends_within o k (in_turn w ends ss current) h = turn_within w o k ss h
  sends_within o k (beside ends ss) h = each_within o k ss h
  sends_within o k (on_hit s end u) h =
      within_both k (sends o s) (cond (is_hit (answer_of (answered o s))) (sends o u) []) (entries s) (entries u) (λ f. sends_within o k s f)
      (λ f. within_if (is_hit (answer_of (answered o s))) k (sends o u) (entries u) (λ g. sends_within o k u g) f) h

  each_within : (o : Own) (k : ℕ) (ss : States) → holds k (joined (sends_each o ss)) ≡ true → holds k (joined (entries_each ss)) ≡ true
  each_within o k none h = h
  each_within o k (more s ss) h = within_both k (sends o s) (joined (sends_each o ss)) (entries s) (joined (entries_each ss)) (λ f. sends_within o k s f) (λ f. each_within o k ss f) h

  pub turn_within : (w : After) (o : Own) (k : ℕ) (ss : States) → holds k (searched w (answers_each o ss) (sends_each o ss)) ≡ true → holds k (joined (entries_each ss)) ≡ true
  turn_within w o k none h = h
  turn_within w o k (more s ss) h =
      within_both k (sends o s) (cond (goes_on_after w (answer_of (answered o s))) (searched w (answers_each o ss) (sends_each o ss)) []) (entries s) (joined (entries_each ss)) (λ f. sends_within o k s f)
      (λ f. within_if (goes_on_after w (answer_of (answered o s))) k (searched w (answers_each o ss) (sends_each o ss)) (joined (entries_each ss)) (λ g. turn_within w o k ss g) f) h

pub only_one : (k : ℕ) (xs ys as2 : List ℕ) → (holds k ys ≡ true → holds k as2 ≡ true) → holds k as2 ≡ false → holds k (xs ++ ys) ≡ true → holds k xs ≡ true
only_one k xs ys as2 f off h = elim (holds_cases k xs ys h) as (λ _. holds k xs ≡ true) [
  | inl p ↦ p
  | inr p ↦ let q = f p in absurd (cc)
]

pub only_other : (k : ℕ) (xs ys as2 : List ℕ) → (holds k xs ≡ true → holds k as2 ≡ true) → holds k as2 ≡ false → holds k (xs ++ ys) ≡ true → holds k ys ≡ true
only_other k xs ys as2 f off h = elim (holds_cases k xs ys h) as (λ _. holds k ys ≡ true) [
  | inl p ↦ let q = f p in absurd (cc)
  | inr p ↦ p
]

-- a leg that is sent is sent by its child
pub sends_at : (o : Own) (k : ℕ) (ss : List State) (i : ℕ) (was : State) → slice_get ss i ≡ Some was → IsOnlyIn k i (entries_each (states_of ss)) → holds k (joined (sends_each o (states_of ss))) ≡ true → holds k (sends o was) ≡ true
sends_at o k [] i was h only f = absurd only
sends_at o k (s ∷ ss) zero was h only f =
    rw (← some_same s was h) (only_one k (sends o s) (joined (sends_each o (states_of ss))) (joined (entries_each (states_of ss))) (λ g. each_within o k (states_of ss) g) only.1 f)
sends_at o k (s ∷ ss) (suc i) was h only f =
    sends_at o k ss i was h only.1 (only_other k (sends o s) (joined (sends_each o (states_of ss))) (entries s) (λ g. sends_within o k s g) only.0 f)

-- ---- what the lists of answered say

pub changes_at : (o : Own) (e : ℕ) (x : Outcome) (t : ℕ) (r : Option Answer) (ss : List State) (i : ℕ) (was : State) → slice_get ss i ≡ Some was → IsOnlyIn e i (entries_each (states_of ss))
    → Changes t r (answered o was) (answered (put o e (reached e x t)) was) → ChangesAt t r i (answered_each o (states_of ss)) (answered_each (put o e (reached e x t)) (states_of ss))
changes_at o e x t None ss i was h only f =
    answered_set o e (reached e x t) ss i was h only ∙ ap (slice_set (answered_each o (states_of ss)) i) f ∙ set_same (answered_each o (states_of ss)) i (answered o was) (answered_at o ss i was h)
changes_at o e x t (Some a) ss i was h only f =
    (answered_at o ss i was h ∙ ap Some f.0, answered_set o e (reached e x t) ss i was h only ∙ ap (slice_set (answered_each o (states_of ss)) i) f.1)

-- ---- all

abbrev pub over_answered : Option Reached → Reached → Reached
over_answered None r = r
over_answered (Some a) r = cond (nat_le (weight a) (weight r)) r a

join_over : (x y : Option Reached) (r : Reached) → came_of x < r.came → join x (Some (over_answered y r)) ≡ Some (over_answered (join x y) r)
join_over None y r h = refl
join_over (Some a) None r h = grind (arith, h)
join_over (Some a) (Some b) r h = grind (arith, h)

over_join : (y : Option Reached) (r : Reached) → came_of y < r.came → join (Some r) y ≡ Some (over_answered y r)
over_join None r h = refl
over_join (Some b) r h = grind (arith, h)

before_all : (t : ℕ) (xs : List (Option Reached)) → 0 < t → AreBefore t xs → came_of (prevails xs) < t
before_all t [] p b = p
before_all t (None ∷ xs) p b = before_all t xs p b.1
before_all t (Some a ∷ xs) p b = joined_before a (prevails xs) b.0 (before_all t xs p b.1)
  where
    joined_before : (a : Reached) (y : Option Reached) → a.came < t → came_of y < t → came_of (join (Some a) y) < t
    joined_before a None h g = h
    joined_before a (Some b) h g = grind (arith, h, g)

pub prevails_set : (xs : List (Option Reached)) (i : ℕ) (r : Reached) → 0 < r.came → AreBefore r.came xs → slice_get xs i ≡ Some None → prevails (slice_set xs i (Some r)) ≡ Some (over_answered (prevails xs) r)
prevails_set [] i r p b h = absurd (cc)
prevails_set (x ∷ xs) zero r p b h = let e : x ≡ None = cc in rw e (over_join (prevails xs) r (before_all r.came xs p b.1))
prevails_set (x ∷ xs) (suc i) r p b h = ap (join x) (prevails_set xs i r p b.1 h) ∙ join_over x (prevails xs) r b.0

pub waits_set : (xs : List (Option Reached)) (i : ℕ) (r : Reached) → slice_get xs i ≡ Some None → waits xs ≡ suc (waits (slice_set xs i (Some r)))
waits_set [] i r h = absurd (cc)
waits_set (x ∷ xs) zero r h = let e : x ≡ None = cc in rw e refl
waits_set (None ∷ xs) (suc i) r h = ap suc (waits_set xs i r h)
waits_set (Some a ∷ xs) (suc i) r h = waits_set xs i r h

pub last_set : (xs : List (Option Reached)) (i : ℕ) (r : Reached) → AreBefore r.came xs → slice_get xs i ≡ Some None → last_came (slice_set xs i (Some r)) ≡ r.came
last_set [] i r b h = absurd (cc)
last_set (x ∷ xs) zero r b h = let m = last_before r.came (x ∷ xs) (omega (arith, b.0)) b in let e : x ≡ None = cc in grind (arith, m, e)
last_set (x ∷ xs) (suc i) r b h = let m = last_set xs i r b.1 h in grind (arith, m, b.0)

pub over_answer : (y : Option Reached) (r : Reached) → (over_answered y r).answer ≡ over (answer_of y) r.answer
over_answer None r = refl
over_answer (Some a) r = elim (nat_le (weight a) (weight r)) as (λ b. (cond b r a).answer ≡ cond b r.answer a.answer) [
  | true ↦ refl
  | false ↦ refl
]
