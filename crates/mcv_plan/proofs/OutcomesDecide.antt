-- What is launched goes by outcomes alone, in whatever order they came.
use Rattle.std.proofs.Common.{◌≡◌, ◌<◌, cond, ℕ, zero, suc, max, Bool, true, false, ◌&&◌, ◌||◌, nat_eq, nat_lt, List, [], ◌∷◌, ◌++◌, length, map, Option, Some, None, option_map, refl, sym, ap, ap₂, ◌∙◌, arith}
use Rattle.std.specs.Prelude.{⊤, ◌==◌, nat_le, slice_index_or}
use Rattle.std.proofs.lemmas.Bool.{eq-eqb}
use Rattle.mcv_base.specs.declared.reply.Outcome.{Outcome}
use Rattle.mcv_base.specs.declared.reply.Outcome.TheVariants.{Good, Soft, Error}
use Rattle.mcv_base.specs.Reply.{badness, is_good}
use Rattle.mcv_route.specs.declared.launch.Launch.{Launch}
use Rattle.mcv_route.specs.Children.{joined}
use Rattle.mcv_route.specs.Outcomes.{Choice, is_same}
use Rattle.mcv_route.specs.Situation.{Situation}
use Rattle.mcv_route.specs.Tree.{Tree}
use Rattle.mcv_rules.specs.declared.arrival.After.{After}
use Rattle.mcv_plan.specs.Entries.{numbers}
use Rattle.mcv_plan.specs.Evaluation.{leg_at}
use Rattle.mcv_plan.specs.KnownOutcomes.{own_in}
use Rattle.mcv_plan.specs.Laws.{AreOf, Evaluates, has_position, is_launched_by, position_at}
use Rattle.mcv_plan.specs.PastOutcomes.{IsLegal, Past, own_of}
use Rattle.mcv_plan.specs.ReachedAnswers.{Own, Reached, all_answered, answer_of, at, first_answered, goes_on, goes_on_after, is_hit, join, last_came, later, next_answered, outcome_in, prevails, reached, search_answered, search_from, searched, waits, weight}
use Rattle.mcv_plan.specs.State.{State, States, send, reply, all, in_turn, beside, on_hit, none, more, answered, answered_each, entries, holds, sends, sends_each}
use Rattle.mcv_plan.proofs.EntriesLaidOut.{has_number, placed_apart}
use Rattle.mcv_plan.proofs.LaunchedOnce.{first_within, sends_part}
use Rattle.mcv_plan.proofs.PartsAreLocal.{or_left, or_right}

abbrev Alike : Option Reached → Option Reached → Type 0
Alike x y = outcome_in x ≡ outcome_in y

abbrev AllAlike : List (Option Reached) → List (Option Reached) → Type 0
AllAlike [] [] = ⊤
AllAlike [] (y ∷ ys) = ⊥
AllAlike (x ∷ xs) [] = ⊥
AllAlike (x ∷ xs) (y ∷ ys) = Alike x y × AllAlike xs ys

same_one : {A : Type 0} {x y : A} → Some x ≡ Some y → x ≡ y
same_one e = cc

no_one : {A B : Type 0} {x : A} → None ≡ Some x → B
no_one e = absurd cc

-- ---- of several, the worst

waits_alike : (xs ys : List (Option Reached)) → AllAlike xs ys → waits xs ≡ waits ys
waits_alike [] [] h = refl
waits_alike [] (y ∷ ys) h = absurd h
waits_alike (x ∷ xs) [] h = absurd h
waits_alike (None ∷ xs) (None ∷ ys) h = ap suc (waits_alike xs ys h.1)
waits_alike (None ∷ xs) (Some b ∷ ys) h = no_one h.0
waits_alike (Some a ∷ xs) (None ∷ ys) h = no_one (sym h.0)
waits_alike (Some a ∷ xs) (Some b ∷ ys) h = waits_alike xs ys h.1

abbrev worse_by : Outcome → Outcome → Outcome
worse_by x y = cond (nat_lt (badness x) (badness y)) y x

by_outcomes : (x y : Outcome) (t : Bool) → cond (nat_lt (badness x) (badness y) || ((badness x == badness y) && t)) y x ≡ worse_by x y
by_outcomes Good Good true = refl
by_outcomes Good Good false = refl
by_outcomes Good Soft t = refl
by_outcomes Good Error t = refl
by_outcomes Soft Good t = refl
by_outcomes Soft Soft true = refl
by_outcomes Soft Soft false = refl
by_outcomes Soft Error t = refl
by_outcomes Error Good t = refl
by_outcomes Error Soft t = refl
by_outcomes Error Error true = refl
by_outcomes Error Error false = refl

outcome_of_one : (t : Bool) (a b : Reached) → (cond t b a).answer.outcome ≡ cond t b.answer.outcome a.answer.outcome
outcome_of_one true a b = refl
outcome_of_one false a b = refl

later_outcome : (a b : Reached) → (later a b).answer.outcome ≡ worse_by a.answer.outcome b.answer.outcome
later_outcome a b = outcome_of_one (nat_lt (weight a) (weight b) || ((weight a == weight b) && nat_le a.came b.came)) a b ∙ by_outcomes a.answer.outcome b.answer.outcome (nat_le a.came b.came)

join_alike : (a b c d : Option Reached) → Alike a c → Alike b d → Alike (join a b) (join c d)
join_alike None b None d h k = k
join_alike None b (Some c) d h k = no_one h
join_alike (Some a) b None d h k = no_one (sym h)
join_alike (Some a) None (Some c) None h k = h
join_alike (Some a) None (Some c) (Some d) h k = no_one k
join_alike (Some a) (Some b) (Some c) None h k = no_one (sym k)
join_alike (Some a) (Some b) (Some c) (Some d) h k =
    ap (λ (o : Outcome). Some o) (later_outcome a b ∙ ap₂ worse_by (same_one h) (same_one k) ∙ sym (later_outcome c d))

prevails_alike : (xs ys : List (Option Reached)) → AllAlike xs ys → Alike (prevails xs) (prevails ys)
prevails_alike [] [] h = refl
prevails_alike [] (y ∷ ys) h = absurd h
prevails_alike (x ∷ xs) [] h = absurd h
prevails_alike (x ∷ xs) (y ∷ ys) h = join_alike x (prevails xs) y (prevails ys) h.0 (prevails_alike xs ys h.1)

at_outcome : (n : ℕ) (x : Option Reached) → outcome_in (option_map (at n) x) ≡ outcome_in x
at_outcome n None = refl
at_outcome n (Some a) = refl

by_test : (t : Bool) (n m : ℕ) (x y : Option Reached) → Alike x y → Alike (cond t (option_map (at n) x) None) (cond t (option_map (at m) y) None)
by_test true n m x y h = at_outcome n x ∙ h ∙ sym (at_outcome m y)
by_test false n m x y h = refl

all_alike : (xs ys : List (Option Reached)) → AllAlike xs ys → Alike (all_answered xs) (all_answered ys)
all_alike xs ys h =
    by_test (waits xs == 0) (last_came xs) (last_came ys) (prevails xs) (prevails ys) (prevails_alike xs ys h)
    ∙ ap (λ k. outcome_in (cond (k == 0) (option_map (at (last_came ys)) (prevails ys)) None)) (waits_alike xs ys h)

-- ---- one after another

turn_alike : (t : Bool) (a c : Reached) (y z : Option Reached) → a.answer.outcome ≡ c.answer.outcome → Alike y z
    → Alike (cond t (option_map (λ b. at (max a.came b.came) b) y) (Some a)) (cond t (option_map (λ b. at (max c.came b.came) b) z) (Some c))
turn_alike true a c None None e k = refl
turn_alike true a c None (Some z) e k = no_one k
turn_alike true a c (Some y) None e k = no_one (sym k)
turn_alike true a c (Some y) (Some z) e k = k
turn_alike false a c y z e k = ap (λ (o : Outcome). Some o) e

next_alike : (w : After) (x c y z : Option Reached) → Alike x c → Alike y z → Alike (next_answered w x y) (next_answered w c z)
next_alike w None None y z h k = refl
next_alike w None (Some c) y z h k = no_one h
next_alike w (Some a) None y z h k = no_one (sym h)
next_alike w (Some a) (Some c) y z h k =
    turn_alike (goes_on w a.answer.outcome) a c y z (same_one h) k ∙ ap (λ o. outcome_in (cond (goes_on w o) (option_map (λ b. at (max c.came b.came) b) z) (Some c))) (same_one h)

from_alike : (w : After) (x y : Option Reached) (xs ys : List (Option Reached)) → Alike x y → AllAlike xs ys → Alike (search_from w x xs) (search_from w y ys)
from_alike w x y [] [] h k = h
from_alike w x y [] (b ∷ ys) h k = absurd k
from_alike w x y (a ∷ xs) [] h k = absurd k
from_alike w x y (a ∷ xs) (b ∷ ys) h k = next_alike w x y (search_from w a xs) (search_from w b ys) h (from_alike w a b xs ys k.0 k.1)

search_alike : (w : After) (xs ys : List (Option Reached)) → AllAlike xs ys → Alike (search_answered w xs) (search_answered w ys)
search_alike w [] [] h = refl
search_alike w [] (y ∷ ys) h = absurd h
search_alike w (x ∷ xs) [] h = absurd h
search_alike w (x ∷ xs) (y ∷ ys) h = from_alike w x y xs ys h.0 h.1

first_alike : (xs ys : List (Option Reached)) → AllAlike xs ys → Alike (first_answered xs) (first_answered ys)
first_alike [] [] h = refl
first_alike [] (y ∷ ys) h = absurd h
first_alike (x ∷ xs) [] h = absurd h
first_alike (x ∷ xs) (y ∷ ys) h = h.0

goes_alike : (w : After) (x y : Option Reached) → Alike x y → goes_on_after w (answer_of x) ≡ goes_on_after w (answer_of y)
goes_alike w None None h = refl
goes_alike w None (Some b) h = no_one h
goes_alike w (Some a) None h = no_one (sym h)
goes_alike w (Some a) (Some b) h = ap (goes_on w) (same_one h)

hit_alike : (x y : Option Reached) → Alike x y → is_hit (answer_of x) ≡ is_hit (answer_of y)
hit_alike None None h = refl
hit_alike None (Some b) h = no_one h
hit_alike (Some a) None h = no_one (sym h)
hit_alike (Some a) (Some b) h = ap is_good (same_one h)

searched_alike : (w : After) (xs ys : List (Option Reached)) (ls : List (List ℕ)) → AllAlike xs ys → searched w (map answer_of xs) ls ≡ searched w (map answer_of ys) ls
searched_alike w [] [] ls h = refl
searched_alike w [] (y ∷ ys) ls h = absurd h
searched_alike w (x ∷ xs) [] ls h = absurd h
searched_alike w (x ∷ xs) (y ∷ ys) [] h = refl
searched_alike w (x ∷ xs) (y ∷ ys) (l ∷ ls) h =
    ap (λ t. l ++ cond t (searched w (map answer_of xs) ls) []) (goes_alike w x y h.0) ∙ ap (λ v. l ++ cond (goes_on_after w (answer_of y)) v []) (searched_alike w xs ys ls h.1)

-- ---- the whole

module _ (o q : Own) (alike : (k : ℕ) → Alike (o k) (q k)) where
  mutual
    answers_alike : (s : State) → Alike (answered o s) (answered q s)
    answers_alike (send e) = alike e
    answers_alike (reply f) = refl
    answers_alike (all ends ss waiting worst) = all_alike (answered_each o ss) (answered_each q ss) (each_alike ss)
    answers_alike (in_turn w ends ss current) = search_alike w (answered_each o ss) (answered_each q ss) (each_alike ss)
    answers_alike (beside ends ss) = first_alike (answered_each o ss) (answered_each q ss) (each_alike ss)
    answers_alike (on_hit s end u) = answers_alike s

    each_alike : (ss : States) → AllAlike (answered_each o ss) (answered_each q ss)
    each_alike none = tt
    each_alike (more s ss) = (answers_alike s, each_alike ss)

  mutual
    pub sends_alike : (s : State) → sends o s ≡ sends q s
    sends_alike (send e) = refl
    sends_alike (reply f) = refl
    sends_alike (all ends ss waiting worst) = ap joined (sends_each_alike ss)
    sends_alike (in_turn w ends ss current) =
        searched_alike w (answered_each o ss) (answered_each q ss) (sends_each o ss) (each_alike ss) ∙ ap (searched w (map answer_of (answered_each q ss))) (sends_each_alike ss)
    sends_alike (beside ends ss) = ap joined (sends_each_alike ss)
    sends_alike (on_hit s end u) =
        ap₂ (λ xs ys. xs ++ ys) (sends_alike s) (ap₂ (λ t xs. cond t xs []) (hit_alike (answered o s) (answered q s) (answers_alike s)) (sends_alike u))

    sends_each_alike : (ss : States) → sends_each o ss ≡ sends_each q ss
    sends_each_alike none = refl
    sends_each_alike (more s ss) = ap₂ (λ x xs. x ∷ xs) (sends_alike s) (sends_each_alike ss)

-- ---- one entry

known_alike : (known : List (Option Outcome)) (past : Past) → AreOf known past → (k : ℕ) → Alike (own_in known k) (own_of past k)
known_alike known past are k = by_outcome (slice_index_or known k None) ∙ are k
  where
    by_outcome : (x : Option Outcome) → outcome_in (option_map (λ y. reached k y 0) x) ≡ x
    by_outcome None = refl
    by_outcome (Some x) = refl

-- where numbers have positions of their own, one is among numbers as its position is among theirs
by_position : (ls : List Launch) (e : ℕ) (ks : List ℕ) → ((k : ℕ) → holds k ks ≡ true → is_same (position_at ls k) (position_at ls e) ≡ nat_eq k e) → holds e ks ≡ has_position (map (leg_at ls) ks) (position_at ls e)
by_position ls e [] h = refl
by_position ls e (k ∷ ks) h =
    ap₂ (λ a b. a || b) (sym (h k (or_left (nat_eq k k) (holds k ks) (eq-eqb k k refl)))) (by_position ls e ks (λ j t. h j (or_right (nat_eq k j) (holds j ks) t)))

pub launched_by_rules : (t : Tree) (s : Situation) (c : Choice) (ls : List Launch) (state : State) (known : List (Option Outcome)) (past : Past) (e : ℕ) → Evaluates t s c ls state → IsLegal state past → AreOf known past → e < length ls
    → holds e (sends (own_in known) state) ≡ is_launched_by t s c ls past e
launched_by_rules t s c ls state known past e law legal are low =
    let f = sends_part (own_of past) state in
    let apart = placed_apart ls law.laid.rising in
    let its : holds e (numbers zero (length ls)) ≡ true = has_number (length ls) zero e (omega arith) (omega (arith, low)) in
    ap (holds e) (sends_alike (own_in known) (own_of past) (known_alike known past are) state)
    ∙ by_position ls e (sends (own_of past) state) (λ k among. apart k e (ap (holds k) (sym law.numbered) ∙ first_within k (sends (own_of past) state) f.0 (entries state) f.1 among) its)
    ∙ ap (λ v. has_position v (position_at ls e)) (law.launches past legal)
