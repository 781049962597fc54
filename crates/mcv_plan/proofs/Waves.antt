-- What has been opened so far, and what is left to open.
use Rattle.std.proofs.Common.{◌≡◌, ◌<◌, ◌≤◌, ◌+◌, cond, max, ℕ, zero, suc, Bool, true, false, List, [], ◌∷◌, ◌++◌, length, map, drop, get_or, Option, Some, None, option_map, refl, sym, ap, ◌∙◌, add-one, append-nil, append_assoc, drop-cons, length-append, arith}
use Rattle.std.proofs.lemmas.List.{drop_all}
use Rattle.mcv_route.specs.Children.{joined}
use Rattle.mcv_rules.specs.declared.arrival.After.{After}
use Rattle.mcv_plan.specs.declared.answer.Answer.{Answer}
use Rattle.mcv_plan.specs.declared.course.Course.{Course}
use Rattle.mcv_plan.specs.ReachedAnswers.{Own, Reached, nothing, answer_of, answer_from, goes_on, goes_on_after, search_from, search_answered, searched, stop_from, at}
use Rattle.mcv_plan.specs.State.{Reflects, ReflectEach, answers_each, entries, entries_each, replies_at_once, sends_each, answered, answered_each, wave}
use Rattle.mcv_plan.specs.View.{seen, view}

pub next : (cs : List Course) (i : ℕ) (p : Course) → i < length cs → p ≡ get_or cs i p → drop i cs ≡ p ∷ drop (i + 1) cs
next cs i p h is = rw (add-one i) (rw (← is) at (drop-cons cs i p h))

pub reflects_next : (o : Own) (cs : List Course) (i : ℕ) (p : Course) → i < length cs → p ≡ get_or cs i p → ReflectEach o (seen cs) → Reflects o (view p)
reflects_next o cs i p h is s = let q : ReflectEach o (seen (drop i cs)) = later_reflect cs i s in (rw (next cs i p h is) at q).0
  where
    later_reflect : (ds : List Course) (j : ℕ) → ReflectEach o (seen ds) → ReflectEach o (seen (drop j ds))
    later_reflect ds zero f = f
    later_reflect [] (suc j) f = f
    later_reflect (d ∷ ds) (suc j) f = later_reflect ds j f.1

-- ---- all at once

pub all_on : (cs : List Course) (i : ℕ) (p : Course) (found found2 all : List ℕ) → i < length cs → p ≡ get_or cs i p
    → found2 ≡ found ++ wave (view p) → found ++ joined (sends_each nothing (seen (drop i cs))) ≡ all → found2 ++ joined (sends_each nothing (seen (drop (i + 1) cs))) ≡ all
all_on cs i p found found2 all h is f inv =
    let more = joined (sends_each nothing (seen (drop (i + 1) cs))) in
    let here : found ++ (wave (view p) ++ more) ≡ all = (rw (next cs i p h is) at inv) in
    rw f (append_assoc found (wave (view p)) more ∙ here)

pub all_end : (first : Course) (others : List Course) (cs : List Course) (i : ℕ) (old start found : List ℕ) → cs ≡ first ∷ others → length others ≤ i → start ≡ old ++ wave (view first)
    → found ++ joined (sends_each nothing (seen (drop i others))) ≡ start ++ joined (sends_each nothing (seen others)) → found ≡ old ++ joined (sends_each nothing (seen cs))
all_end first others cs i old start found is h s inv =
    let whole : found ≡ start ++ joined (sends_each nothing (seen others)) = sym (append-nil found) ∙ ap (λ ps. found ++ joined (sends_each nothing (seen ps))) (sym (drop_all i others h)) ∙ inv in
    whole ∙ rw (is, s) (append_assoc old (wave (view first)) (joined (sends_each nothing (seen others))))

-- ---- room

pub count_on : (cs : List Course) (i : ℕ) (p : Course) (n m all : ℕ) → i < length cs → p ≡ get_or cs i p
    → m ≤ n + length (entries (view p)) → n + length (joined (entries_each (seen (drop i cs)))) ≤ all → m + length (joined (entries_each (seen (drop (i + 1) cs)))) ≤ all
count_on cs i p n m all h is f inv =
    let more = joined (entries_each (seen (drop (i + 1) cs))) in
    let here : n + length (entries (view p) ++ more) ≤ all = (rw (next cs i p h is) at inv) in
    omega (arith, f, here, length-append (entries (view p)) more)

-- ---- one after another

pub searched_on : (w : After) (cs : List Course) (i : ℕ) (p : Course) (found found2 all : List ℕ) (x y : Option Answer) → i < length cs → p ≡ get_or cs i p → goes_on_after w x ≡ true
    → found2 ≡ found ++ wave (view p) → y ≡ replies_at_once (view p)
    → found ++ cond (goes_on_after w x) (searched w (answers_each nothing (seen (drop i cs))) (sends_each nothing (seen (drop i cs)))) [] ≡ all
    → found2 ++ cond (goes_on_after w y) (searched w (answers_each nothing (seen (drop (i + 1) cs))) (sends_each nothing (seen (drop (i + 1) cs)))) [] ≡ all
searched_on w cs i p found found2 all x y h is on f e inv =
    let more = cond (goes_on_after w (replies_at_once (view p))) (searched w (answers_each nothing (seen (drop (i + 1) cs))) (sends_each nothing (seen (drop (i + 1) cs)))) [] in
    let here : found ++ (wave (view p) ++ more) ≡ all = (rw (on, next cs i p h is) at inv) in
    rw (f, e) (append_assoc found (wave (view p)) more ∙ here)

pub answer_on : (w : After) (cs : List Course) (i : ℕ) (p : Course) (x y all : Option Answer) → i < length cs → p ≡ get_or cs i p → goes_on_after w x ≡ true
    → y ≡ replies_at_once (view p) → answer_from w x (answers_each nothing (seen (drop i cs))) ≡ all → answer_from w y (answers_each nothing (seen (drop (i + 1) cs))) ≡ all
answer_on w cs i p x y all h is on e inv =
    let more = answers_each nothing (seen (drop (i + 1) cs)) in
    let here : cond (goes_on_after w x) (answer_from w (replies_at_once (view p)) more) x ≡ all = (rw (next cs i p h is) at inv) in
    rw e (rw on at here)

pub steps_on : (w : After) (cs : List Course) (i : ℕ) (p : Course) (x y : Option Answer) (n all : ℕ) → i < length cs → p ≡ get_or cs i p → goes_on_after w x ≡ true
    → y ≡ replies_at_once (view p) → n + stop_from w x (answers_each nothing (seen (drop i cs))) ≡ all → (n + 1) + stop_from w y (answers_each nothing (seen (drop (i + 1) cs))) ≡ all
steps_on w cs i p x y n all h is on e inv =
    let more = answers_each nothing (seen (drop (i + 1) cs)) in
    let here : n + cond (goes_on_after w x) (suc (stop_from w (replies_at_once (view p)) more)) 0 ≡ all = (rw (next cs i p h is) at inv) in
    let there : n + suc (stop_from w (replies_at_once (view p)) more) ≡ all = (rw on at here) in
    rw e (omega (arith, there))

pub answer_stops : (w : After) (x : Option Answer) (xs : List (Option Answer)) → goes_on_after w x ≡ false → answer_from w x xs ≡ x
answer_stops w x [] off = refl
answer_stops w x (y ∷ ys) off = rw off refl

pub steps_stop : (w : After) (x : Option Answer) (xs : List (Option Answer)) → goes_on_after w x ≡ false → stop_from w x xs ≡ 0
steps_stop w x [] off = refl
steps_stop w x (y ∷ ys) off = rw off refl

-- ---- the reply of a search

at_answer : (n : ℕ) (x : Option Reached) → answer_of (option_map (at n) x) ≡ answer_of x
at_answer n None = refl
at_answer n (Some a) = refl

later_answer : (g : ℕ) (a : Reached) (z : Option Reached) → answer_of (option_map (λ b. at (max a.came b.came) b) z) ≡ answer_of z
later_answer g a None = refl
later_answer g a (Some b) = refl

goes_along : (a : Reached) (z : Option Reached) (r : Option Answer) (b : Bool) → answer_of z ≡ r → answer_of (cond b (option_map (λ c. at (max a.came c.came) c) z) (Some a)) ≡ cond b r (Some a.answer)
goes_along a z r true e = later_answer 0 a z ∙ e
goes_along a z r false e = refl

pub search_answer : (w : After) (x : Option Reached) (xs : List (Option Reached)) → answer_of (search_from w x xs) ≡ answer_from w (answer_of x) (map answer_of xs)
search_answer w x [] = refl
search_answer w None (y ∷ ys) = refl
search_answer w (Some a) (y ∷ ys) = goes_along a (search_from w y ys) (answer_from w (answer_of y) (map answer_of ys)) (goes_on w a.answer.outcome) (search_answer w y ys)

pub search_answers : (w : After) (first : Course) (others cs : List Course) (x r : Option Answer) → cs ≡ first ∷ others → x ≡ replies_at_once (view first)
    → r ≡ answer_from w x (answers_each nothing (seen others)) → r ≡ answer_of (search_answered w (answered_each nothing (seen cs)))
search_answers w first others cs x r is e a = rw is (a ∙ ap (λ z. answer_from w z (answers_each nothing (seen others))) e ∙ sym (search_answer w (answered nothing (view first)) (answered_each nothing (seen others))))

pub room_left : (n m cap : ℕ) (ks bs : List ℕ) → m ≤ n + length ks → n + length (ks ++ bs) ≤ cap → m + length bs ≤ cap
room_left n m cap ks bs f room = omega (arith, f, room, length-append ks bs)

pub room_behind : (first : Course) (others cs : List Course) (n m cap : ℕ) → cs ≡ first ∷ others → m ≤ n + length (entries (view first)) → n + length (joined (entries_each (seen cs))) ≤ cap
    → m + length (joined (entries_each (seen others))) ≤ cap
room_behind first others cs n m cap is f room = room_left n m cap (entries (view first)) (joined (entries_each (seen others))) f (rw is at room)
