-- The list of outcomes as a table has it: of each position its first, its place and its time.
use Rattle.std.proofs.Common.{◌≡◌, ◌<◌, ◌+◌, ◌&&◌, cond, ℕ, zero, suc, Bool, true, false, List, [], ◌∷◌, ◌++◌, length, take, get_or, Option, Some, None, refl, sym, ap, ap₂, ◌∙◌, arith, add-one, nat_eq, option_map, unwrap_or, ⊎_elim}
use Rattle.std.specs.Prelude.{⊤, fold, is_none, is_some, slice_get}
use Rattle.std.specs.Str.{bytes_eq}
use Rattle.std.proofs.Math.Seq.{take-suc}
use Rattle.std.proofs.lemmas.List.{length-take-le}
use Rattle.std.proofs.lemmas.List.Sums.{fold-append}
use Rattle.mcv_base.specs.Reply.{outcome_of, part_value}
use Rattle.mcv_base.specs.declared.operation.Op.{Op}
use Rattle.mcv_base.specs.declared.reply.Outcome.{Outcome}
use Rattle.mcv_route.specs.declared.launch.Answered.{Answered}
use Rattle.mcv_route.specs.Outcomes.{History, is_same, outcomes}
use Rattle.mcv_route.specs.Tree.{Pool, Tree, pool, none}
use Rattle.mcv_route.specs.Situation.{Situation}
use Rattle.mcv_route.specs.Replies.{own_answers, replies}
use Rattle.mcv_route.specs.Reply.{is_waiting, came, arrival, own_answer}
use Rattle.mcv_rules.specs.History.{entry_of, heard, history_of, place_of}
use Rattle.mcv_rules.specs.Arrivals.{seen, heard_at, own_found, own_arrived}
use Rattle.mcv_rules.specs.Times.{IsStable}
use Rattle.mcv_rules.specs.declared.arrival.Arrival.{Arrival}
use Rattle.mcv_rules.specs.declared.status.Source.TheVariants.{Outcome as placed}
use Rattle.mcv_rules.proofs.Orders.{same_is, one_more}
use Rattle.mcv_rules.proofs.AnswersStay

pub same_bytes : (p q : List ℕ) → bytes_eq p q ≡ is_same p q
same_bytes [] [] = refl
same_bytes [] (j ∷ q) = refl
same_bytes (i ∷ p) [] = refl
same_bytes (i ∷ p) (j ∷ q) = ap (λ b. nat_eq i j && b) (same_bytes p q)

-- ---- the first entry at a position

abbrev pub outcome_of_answered : Answered → Outcome
outcome_of_answered a = outcome_of (part_value a.reply)

-- its outcome
abbrev pub first_at : List ℕ → List Answered → Option Outcome
first_at p [] = None
first_at p (a ∷ xs) = cond (is_same a.position p) (Some (outcome_of_answered a)) (first_at p xs)

abbrev or_else : Option Outcome → Option Outcome → Option Outcome
or_else None y = y
or_else (Some x) y = Some x

or_nothing : (r : Option Outcome) → r ≡ or_else r None
or_nothing None = refl
or_nothing (Some x) = refl

-- the next entry is heard where its position has no outcome
heard_first : (es : History) (a : Answered) (p : List ℕ) (r : Option Outcome) (b : Bool) → outcomes es a.position ≡ r → is_same a.position p ≡ b
    → outcomes (cond (is_none r) (entry_of a ∷ es) es) p ≡ or_else (outcomes es p) (cond b (Some (outcome_of_answered a)) None)
heard_first es a p None true e w =
    let unheard : outcomes es p ≡ None = ap (outcomes es) (sym (same_is a.position p w)) ∙ e in
    rw (w, unheard) refl
heard_first es a p None false e w = rw w (or_nothing (outcomes es p))
heard_first es a p (Some x) true e w =
    let heard_already : outcomes es p ≡ Some x = ap (outcomes es) (sym (same_is a.position p w)) ∙ e in
    rw heard_already refl
heard_first es a p (Some x) false e w = or_nothing (outcomes es p)

or_else_once : (r : Option Outcome) (b : Bool) (x : Outcome) (y : Option Outcome) → or_else (or_else r (cond b (Some x) None)) y ≡ or_else r (cond b (Some x) y)
or_else_once None true x y = refl
or_else_once None false x y = refl
or_else_once (Some z) b x y = refl

fold_first : (es : History) (xs : List Answered) (p : List ℕ) → outcomes (fold heard es xs) p ≡ or_else (outcomes es p) (first_at p xs)
fold_first es [] p = or_nothing (outcomes es p)
fold_first es (a ∷ xs) p =
    fold_first (heard es a) xs p
    ∙ ap (λ r. or_else r (first_at p xs)) (heard_first es a p (outcomes es a.position) (is_same a.position p) refl refl)
    ∙ or_else_once (outcomes es p) (is_same a.position p) (outcome_of_answered a) (first_at p xs)

pub outcome_first : (xs : List Answered) (p : List ℕ) → outcomes (history_of xs) p ≡ first_at p xs
outcome_first xs p = fold_first [] xs p

-- ---- the place of the first entry

place_before : (xs ys : List Answered) (p : List ℕ) (x : Outcome) → first_at p xs ≡ Some x → place_of (xs ++ ys) p ≡ place_of xs p
place_before [] ys p x e = absurd (let f : None ≡ Some x = e in cc)
place_before (a ∷ xs) ys p x e = by_test (is_same a.position p) (λ f. place_before xs ys p x f) e
  where
    by_test : (b : Bool) → (first_at p xs ≡ Some x → place_of (xs ++ ys) p ≡ place_of xs p) → cond b (Some (outcome_of_answered a)) (first_at p xs) ≡ Some x → cond b zero (suc (place_of (xs ++ ys) p)) ≡ cond b zero (suc (place_of xs p))
    by_test true more e = refl
    by_test false more e = ap suc (more e)

place_last : (xs : List Answered) (a : Answered) (p : List ℕ) → first_at p xs ≡ None → is_same a.position p ≡ true → place_of (xs ++ a ∷ []) p ≡ length xs
place_last [] a p e w = rw w refl
place_last (y ∷ xs) a p e w = by_test (is_same y.position p) (λ f. place_last xs a p f w) e
  where
    by_test : (b : Bool) → (first_at p xs ≡ None → place_of (xs ++ a ∷ []) p ≡ length xs) → cond b (Some (outcome_of_answered y)) (first_at p xs) ≡ None → cond b zero (suc (place_of (xs ++ a ∷ []) p)) ≡ suc (length xs)
    by_test true more e = absurd (let f : Some (outcome_of_answered y) ≡ None = e in cc)
    by_test false more e = ap suc (more e)

-- the entry at the place has the outcome
pub outcome_at_place : (xs : List Answered) (p : List ℕ) → option_map outcome_of_answered (slice_get xs (place_of xs p)) ≡ first_at p xs
outcome_at_place [] p = refl
outcome_at_place (a ∷ xs) p = by_test (is_same a.position p) (outcome_at_place xs p)
  where
    by_test : (b : Bool) → option_map outcome_of_answered (slice_get xs (place_of xs p)) ≡ first_at p xs → option_map outcome_of_answered (slice_get (a ∷ xs) (cond b zero (suc (place_of xs p)))) ≡ cond b (Some (outcome_of_answered a)) (first_at p xs)
    by_test true more = refl
    by_test false more = more

-- ---- one entry more

pub history_of-append : (xs : List Answered) (a : Answered) → history_of (xs ++ a ∷ []) ≡ heard (history_of xs) a
history_of-append xs a = fold-append heard [] xs (a ∷ [])

-- what the table has at a position after an entry
abbrev pub next_found : ℕ → ℕ → Answered → Option Arrival → Bool → Option Arrival → Option Arrival
next_found place count a at_entry same before =
    cond (is_some at_entry) before (cond same (Some (record { answer = Some (record { outcome = outcome_of_answered a; source = placed place }); came = suc count })) before)

abbrev found_by : ℕ → ℕ → Option Outcome → Option Arrival
found_by place came r = option_map (λ x. record { answer = Some (record { outcome = x; source = placed place }); came = came }) r

is_some-found : (place came : ℕ) (r : Option Outcome) → is_some (found_by place came r) ≡ is_some r
is_some-found place came None = refl
is_some-found place came (Some x) = refl

-- by what the entry's position had, and the position itself
found_next : (xs : List Answered) (a : Answered) (p : List ℕ) (r q : Option Outcome) (b : Bool) → outcomes (history_of xs) a.position ≡ r → outcomes (history_of xs) p ≡ q → is_same a.position p ≡ b
    → own_found p (xs ++ a ∷ []) ≡ cond (is_some r) (own_found p xs) (cond b (Some (record { answer = Some (record { outcome = outcome_of_answered a; source = placed (length xs) }); came = suc (length (history_of xs)) })) (own_found p xs))
found_next xs a p (Some y) None b e f w = rw (history_of-append xs a, e, f) refl
found_next xs a p (Some y) (Some x) b e f w =
    rw (history_of-append xs a, e, f, place_before xs (a ∷ []) p x (sym (outcome_first xs p) ∙ f)) refl
found_next xs a p None (Some x) true e f w =
    absurd (let both_ways : None ≡ Some x = sym e ∙ ap (outcomes (history_of xs)) (same_is a.position p w) ∙ f in cc)
found_next xs a p None None true e f w =
    rw (history_of-append xs a, e, w, f, place_last xs a p (sym (outcome_first xs p) ∙ f) w) refl
found_next xs a p None None false e f w = rw (history_of-append xs a, e, w, f) refl
found_next xs a p None (Some x) false e f w =
    rw (history_of-append xs a, e, w, f, place_before xs (a ∷ []) p x (sym (outcome_first xs p) ∙ f)) refl

pub own_found-grows : (p : List ℕ) (xs : List Answered) (n : ℕ) (a : Answered) → n < length xs → a ≡ get_or xs n a
    → own_found p (take (n + 1) xs) ≡ next_found n (length (history_of (take n xs))) a (own_found a.position (take n xs)) (is_same a.position p) (own_found p (take n xs))
own_found-grows p xs n a h is =
    let so_far = take n xs in
    let count : length so_far ≡ n = length-take-le n xs (omega (arith, h)) in
    rw (add-one n, take-suc xs n a h, ← is)
    (found_next so_far a p (outcomes (history_of so_far) a.position) (outcomes (history_of so_far) p) (is_same a.position p) refl refl refl
    ∙ rw (count, is_some-found (place_of so_far a.position) (heard_at a.position (history_of so_far)) (outcomes (history_of so_far) a.position)) refl)

pub count-grows : (xs : List Answered) (n : ℕ) (a : Answered) → n < length xs → a ≡ get_or xs n a
    → length (history_of (take (n + 1) xs)) ≡ cond (is_some (own_found a.position (take n xs))) (length (history_of (take n xs))) (suc (length (history_of (take n xs))))
count-grows xs n a h is =
    let so_far = take n xs in
    let es = history_of so_far in
    rw (add-one n, take-suc xs n a h, ← is, history_of-append so_far a, is_some-found (place_of so_far a.position) (heard_at a.position es) (outcomes es a.position))
    (by_outcome (outcomes es a.position))
  where
    by_outcome : (r : Option Outcome) → length (cond (is_none r) (entry_of a ∷ history_of (take n xs)) (history_of (take n xs))) ≡ cond (is_some r) (length (history_of (take n xs))) (suc (length (history_of (take n xs))))
    by_outcome None = refl
    by_outcome (Some x) = refl

-- ---- by the definitions

never_heard : (q : Pool) (s : Situation) (es : History) → outcomes es s.position ≡ None → came (pool q [] none) s es ≡ length es
never_heard q s [] e = refl
never_heard q s (e ∷ es) n = by_test (is_same e.0 s.position) n
  where
    by_test : (b : Bool) → cond b (Some e.1) (outcomes es s.position) ≡ None → cond (is_waiting (own_answers s.position (outcomes es s.position))) (suc (length es)) (came (pool q [] none) s es) ≡ suc (length es)
    by_test true n = absurd (let f : Some e.1 ≡ None = n in cc)
    by_test false n = rw n refl

waiting_own : (p : List ℕ) (r : Option Outcome) → is_waiting (own_answers p r) ≡ is_none r
waiting_own p None = refl
waiting_own p (Some x) = refl

heard_came : (q : Pool) (s : Situation) (es : History) → heard_at s.position es ≡ came (pool q [] none) s es
heard_came q s [] = refl
heard_came q s (e ∷ es) = ap₂ (λ b n. cond b (suc (length es)) n) (sym (waiting_own s.position (outcomes es s.position))) (heard_came q s es)

own_by : (op : Op) (xs : List Answered) (q : Pool) (s : Situation) (r : Option Outcome) → outcomes (history_of xs) s.position ≡ r
    → unwrap_or (found_by (place_of xs s.position) (heard_at s.position (history_of xs)) r) (record { answer = None; came = length (history_of xs) })
    ≡ seen op xs (arrival (own_answer s.position r) (came (pool q [] none) s (history_of xs)))
own_by op xs q s None e = rw (never_heard q s (history_of xs) e) refl
own_by op xs q s (Some x) e = rw (heard_came q s (history_of xs)) refl

pub own_seen : (q : Pool) (s : Situation) (xs : List Answered) → own_arrived xs s.position ≡ seen s.op xs (arrival (own_answer s.position (outcomes (history_of xs) s.position)) (came (pool q [] none) s (history_of xs)))
own_seen q s xs = own_by s.op xs q s (outcomes (history_of xs) s.position) refl

pub own_outcome : (xs : List Answered) (p : List ℕ) → option_map (λ a. a.outcome) (own_arrived xs p).answer ≡ outcomes (history_of xs) p
own_outcome xs p = by_outcome (outcomes (history_of xs) p)
  where
    by_outcome : (r : Option Outcome) → option_map (λ a. a.outcome) (unwrap_or (found_by (place_of xs p) (heard_at p (history_of xs)) r) (record { answer = None; came = length (history_of xs) })).answer ≡ r
    by_outcome None = refl
    by_outcome (Some x) = refl

-- ---- no position has two outcomes

abbrev pub IsApart : History → Type 0
IsApart [] = ⊤
IsApart (e ∷ es) = (outcomes es e.0 ≡ None) × IsApart es

apart_next : (es : History) (a : Answered) (r : Option Outcome) → outcomes es a.position ≡ r → IsApart es → IsApart (cond (is_none r) (entry_of a ∷ es) es)
apart_next es a None e h = (e, h)
apart_next es a (Some x) e h = h

apart_all : (es : History) (xs : List Answered) → IsApart es → IsApart (fold heard es xs)
apart_all es [] h = h
apart_all es (a ∷ xs) h = apart_all (heard es a) xs (apart_next es a (outcomes es a.position) refl h)

pub apart : (xs : List Answered) → IsApart (history_of xs)
apart xs = apart_all [] xs tt

-- so replies stay
pub stable : (t : Tree) (s : Situation) (es : History) → IsApart es → IsStable (λ h. replies t s (outcomes h)) es
stable t s [] h = tt
stable t s (e ∷ es) h =
    (λ n. ⊎_elim (λ z. absurd (n z)) (λ z. z) (AnswersStay.reply_stays t s (outcomes es) (outcomes (e ∷ es)) (one_more e.0 e.1 es h.0)), stable t s es h.1)
