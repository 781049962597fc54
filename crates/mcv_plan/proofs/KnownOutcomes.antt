-- What is answered and launched where exactly these outcomes are known: one child more.
use Rattle.std.proofs.Common.{◌≡◌, ◌<◌, ◌≤◌, ◌+◌, cond, ℕ, suc, Bool, true, false, ◌||◌, nat_eq, nat_lt, List, [], ◌∷◌, ◌++◌, length, drop, get_or, Option, Some, None, option_map, refl, sym, ap, ◌∙◌, arith}
use Rattle.std.specs.Prelude.{◌==◌, slice_index_or}
use Rattle.std.proofs.lemmas.List.{drop_all}
use Rattle.mcv_base.specs.declared.reply.Outcome.{Outcome}
use Rattle.mcv_route.specs.Children.{joined}
use Rattle.mcv_rules.specs.declared.arrival.After.{After}
use Rattle.mcv_plan.specs.declared.answer.Answer.{Answer}
use Rattle.mcv_plan.specs.declared.course.Course.{Course}
use Rattle.mcv_plan.specs.KnownOutcomes.{own_in}
use Rattle.mcv_plan.specs.ReachedAnswers.{IsBefore, Own, Reached, all_answered, answer_from, answer_of, at, came_of, goes_on_after, is_hit, last_came, over, prevails, reached, search_answered, searched, waits}
use Rattle.mcv_plan.specs.State.{State, States, answered, answered_each, answers_each, holds, sends, sends_each}
use Rattle.mcv_plan.specs.View.{seen, view}
use Rattle.mcv_plan.proofs.Lists.{each_before}
use Rattle.mcv_plan.proofs.Waves.{next, search_answer}
use Rattle.mcv_plan.proofs.WorstAtOnce.{fold_join_is, worst_folds, worst_from}

-- none came after another
pub known_before : (outcomes : List (Option Outcome)) → IsBefore (own_in outcomes) 1
known_before outcomes k = by_outcome (slice_index_or outcomes k None)
  where
    by_outcome : (x : Option Outcome) → nat_lt (came_of (option_map (λ y. reached k y 0) x)) 1 ≡ true
    by_outcome None = grind arith
    by_outcome (Some x) = grind arith

-- ---- the worst of all

by_waits : (b : Bool) (n : ℕ) (x : Option Reached) → cond b (answer_of x) None ≡ answer_of (cond b (option_map (at n) x) None)
by_waits true n None = refl
by_waits true n (Some a) = refl
by_waits false n x = refl

worst_known : (o : Own) (ss : States) → IsBefore o 1 → worst_from None (answered_each o ss) ≡ answer_of (prevails (answered_each o ss))
worst_known o ss before = let xs = answered_each o ss in worst_folds None xs (omega arith) (each_before o 1 ss before) ∙ ap answer_of (fold_join_is None xs)

-- all have answered
pub all_in : (o : Own) (cs : List Course) (i : ℕ) (w : Option Answer) → IsBefore o 1 → length cs ≤ i → waits (answered_each o (seen (drop i cs))) ≡ waits (answered_each o (seen cs))
    → worst_from w (answered_each o (seen (drop i cs))) ≡ worst_from None (answered_each o (seen cs)) → w ≡ answer_of (all_answered (answered_each o (seen cs)))
all_in o cs i w before h count worst =
    let xs = answered_each o (seen cs) in
    let none : 0 ≡ waits xs = (rw (drop_all i cs h) at count) in
    let end : w ≡ worst_from None xs = (rw (drop_all i cs h) at worst) in
    let on : (waits xs == 0) ≡ true = grind (arith, none) in
    end ∙ worst_known o (seen cs) before ∙ ap (λ b. cond b (answer_of (prevails xs)) None) (sym on) ∙ by_waits (waits xs == 0) (last_came xs) (prevails xs)

waits_some : (x : Option Reached) (xs : List (Option Reached)) (a : Answer) → Some a ≡ answer_of x → waits (x ∷ xs) ≡ waits xs
waits_some None xs a e = absurd (cc)
waits_some (Some b) xs a e = refl

waits_none : (x : Option Reached) (xs : List (Option Reached)) → None ≡ answer_of x → waits (x ∷ xs) ≡ suc (waits xs)
waits_none None xs e = refl
waits_none (Some b) xs e = absurd (cc)

worst_some : (w : Option Answer) (x : Option Reached) (xs : List (Option Reached)) (a : Answer) → Some a ≡ answer_of x → worst_from w (x ∷ xs) ≡ worst_from (Some (over w a)) xs
worst_some w None xs a e = absurd (cc)
worst_some w (Some b) xs a e = ap (λ z. worst_from z xs) (ap (option_map (over w)) (sym e))

module _ (o : Own) (cs : List Course) (i : ℕ) (p : Course) (h : i < length cs) (is : p ≡ get_or cs i p) where
  abbrev behind : List (Option Reached)
  behind = answered_each o (seen (drop (i + 1) cs))

  -- one more has answered
  pub waits_in : (a : Answer) (all : ℕ) → Some a ≡ answer_of (answered o (view p)) → waits (answered_each o (seen (drop i cs))) ≡ all → waits (answered_each o (seen (drop (i + 1) cs))) ≡ all
  waits_in a all e inv =
      let here : waits (answered o (view p) ∷ behind) ≡ all = (rw (next cs i p h is) at inv) in
      sym (waits_some (answered o (view p)) behind a e) ∙ here

  pub worst_in : (a : Answer) (w w2 all : Option Answer) → Some a ≡ answer_of (answered o (view p)) → w2 ≡ Some (over w a) → worst_from w (answered_each o (seen (drop i cs))) ≡ all → worst_from w2 (answered_each o (seen (drop (i + 1) cs))) ≡ all
  worst_in a w w2 all e f inv =
      let here : worst_from w (answered o (view p) ∷ behind) ≡ all = (rw (next cs i p h is) at inv) in
      ap (λ z. worst_from z behind) f ∙ sym (worst_some w (answered o (view p)) behind a e) ∙ here

  -- one has not
  pub none_in : None ≡ answer_of (answered o (view p)) → waits (answered_each o (seen (drop i cs))) ≡ waits (answered_each o (seen cs)) → None ≡ answer_of (all_answered (answered_each o (seen cs)))
  none_in e inv =
      let xs = answered_each o (seen cs) in
      let here : waits (answered o (view p) ∷ behind) ≡ waits xs = (rw (next cs i p h is) at inv) in
      let more : suc (waits behind) ≡ waits xs = sym (waits_none (answered o (view p)) behind e) ∙ here in
      let off : (waits xs == 0) ≡ false = grind (arith, more) in
      ap (λ b. cond b (answer_of (prevails xs)) None) (sym off) ∙ by_waits (waits xs == 0) (last_came xs) (prevails xs)

-- ---- one after another

pub answer_known : (o : Own) (w : After) (cs : List Course) (i : ℕ) (p : Course) (x y all : Option Answer) → i < length cs → p ≡ get_or cs i p → goes_on_after w x ≡ true
    → y ≡ answer_of (answered o (view p)) → answer_from w x (answers_each o (seen (drop i cs))) ≡ all → answer_from w y (answers_each o (seen (drop (i + 1) cs))) ≡ all
answer_known o w cs i p x y all h is on e inv =
    let more = answers_each o (seen (drop (i + 1) cs)) in
    let here : cond (goes_on_after w x) (answer_from w (answer_of (answered o (view p))) more) x ≡ all = (rw (next cs i p h is) at inv) in
    rw e (rw on at here)

pub search_known : (o : Own) (w : After) (first : Course) (others cs : List Course) (x r : Option Answer) → cs ≡ first ∷ others → x ≡ answer_of (answered o (view first))
    → r ≡ answer_from w x (answers_each o (seen others)) → r ≡ answer_of (search_answered w (answered_each o (seen cs)))
search_known o w first others cs x r is e a = rw is (a ∙ ap (λ z. answer_from w z (answers_each o (seen others))) e ∙ sym (search_answer w (answered o (view first)) (answered_each o (seen others))))

-- ---- the legs of several

holds_append : (k : ℕ) (xs ys : List ℕ) → holds k (xs ++ ys) ≡ (holds k xs || holds k ys)
holds_append k [] ys = refl
holds_append k (x ∷ xs) ys = by_first (nat_eq x k) (holds_append k xs ys)
  where
    by_first : (b : Bool) → holds k (xs ++ ys) ≡ (holds k xs || holds k ys) → (b || holds k (xs ++ ys)) ≡ ((b || holds k xs) || holds k ys)
    by_first true e = refl
    by_first false e = e

pub or_none : (b : Bool) → b ≡ (b || false)
or_none true = refl
or_none false = refl

-- in the first list, or only in the second
in_first : (k : ℕ) (xs ys : List ℕ) (r all : Bool) → r ≡ holds k xs → r ≡ true → holds k (xs ++ ys) ≡ all → true ≡ all
in_first k xs ys r all e on inv = ap (λ b. b || holds k ys) (sym on ∙ e) ∙ sym (holds_append k xs ys) ∙ inv

in_second : (k : ℕ) (xs ys : List ℕ) (r all : Bool) → r ≡ holds k xs → r ≡ false → holds k (xs ++ ys) ≡ all → holds k ys ≡ all
in_second k xs ys r all e off inv = ap (λ b. b || holds k ys) (sym off ∙ e) ∙ sym (holds_append k xs ys) ∙ inv

module _ (o : Own) (cs : List Course) (i : ℕ) (p : Course) (k : ℕ) (r all : Bool) (h : i < length cs) (is : p ≡ get_or cs i p) (e : r ≡ holds k (sends o (view p))) where
  pub any_found : r ≡ true → holds k (joined (sends_each o (seen (drop i cs)))) ≡ all → true ≡ all
  any_found on inv = in_first k (sends o (view p)) (joined (sends_each o (seen (drop (i + 1) cs)))) r all e on (rw (next cs i p h is) at inv)

  pub any_left : r ≡ false → holds k (joined (sends_each o (seen (drop i cs)))) ≡ all → holds k (joined (sends_each o (seen (drop (i + 1) cs)))) ≡ all
  any_left off inv = in_second k (sends o (view p)) (joined (sends_each o (seen (drop (i + 1) cs)))) r all e off (rw (next cs i p h is) at inv)

  abbrev search_from_here : After → ℕ → List ℕ
  search_from_here w j = searched w (answers_each o (seen (drop j cs))) (sends_each o (seen (drop j cs)))

  abbrev search_behind : After → List ℕ
  search_behind w = cond (goes_on_after w (answer_of (answered o (view p)))) (search_from_here w (i + 1)) []

  pub search_found : (w : After) → r ≡ true → holds k (search_from_here w i) ≡ all → true ≡ all
  search_found w on inv = in_first k (sends o (view p)) (search_behind w) r all e on (rw (next cs i p h is) at inv)

  pub search_left : (w : After) (y : Option Answer) → y ≡ answer_of (answered o (view p)) → goes_on_after w y ≡ true → r ≡ false → holds k (search_from_here w i) ≡ all → holds k (search_from_here w (i + 1)) ≡ all
  search_left w y f on off inv =
      let here : holds k (search_behind w) ≡ all = in_second k (sends o (view p)) (search_behind w) r all e off (rw (next cs i p h is) at inv) in
      ap (λ b. holds k (cond b (search_from_here w (i + 1)) [])) (sym on ∙ ap (goes_on_after w) f) ∙ here

  pub search_ended : (w : After) (y : Option Answer) → y ≡ answer_of (answered o (view p)) → goes_on_after w y ≡ false → r ≡ false → holds k (search_from_here w i) ≡ all → false ≡ all
  search_ended w y f on off inv =
      let here : holds k (search_behind w) ≡ all = in_second k (sends o (view p)) (search_behind w) r all e off (rw (next cs i p h is) at inv) in
      ap (λ b. holds k (cond b (search_from_here w (i + 1)) [])) (sym on ∙ ap (goes_on_after w) f) ∙ here

-- ---- after a hit

module _ (o : Own) (s u : State) (k : ℕ) (r : Bool) (e : r ≡ holds k (sends o s)) where
  abbrev sent_behind : List ℕ
  sent_behind = cond (is_hit (answer_of (answered o s))) (sends o u) []

  pub hit_found : r ≡ true → true ≡ holds k (sends o s ++ sent_behind)
  hit_found on = in_first k (sends o s) sent_behind r (holds k (sends o s ++ sent_behind)) e on refl

  pub hit_second : (y : Option Answer) (b h : Bool) → y ≡ answer_of (answered o s) → h ≡ is_hit y → h ≡ true → r ≡ false → b ≡ holds k (sends o u) → b ≡ holds k (sends o s ++ sent_behind)
  hit_second y b h f g on off second =
      let here : holds k sent_behind ≡ holds k (sends o s ++ sent_behind) = in_second k (sends o s) sent_behind r (holds k (sends o s ++ sent_behind)) e off refl in
      second ∙ ap (λ t. holds k (cond t (sends o u) [])) (sym on ∙ g ∙ ap is_hit f) ∙ here

  pub hit_none : (y : Option Answer) (h : Bool) → y ≡ answer_of (answered o s) → h ≡ is_hit y → h ≡ false → r ≡ false → false ≡ holds k (sends o s ++ sent_behind)
  hit_none y h f g on off =
      let here : holds k sent_behind ≡ holds k (sends o s ++ sent_behind) = in_second k (sends o s) sent_behind r (holds k (sends o s ++ sent_behind)) e off refl in
      ap (λ t. holds k (cond t (sends o u) [])) (sym on ∙ g ∙ ap is_hit f) ∙ here
