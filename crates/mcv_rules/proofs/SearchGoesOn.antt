-- A search that goes on: the legs found so far and those of the plans that are left.
use Rattle.std.proofs.Common.{◌≡◌, ◌<◌, ◌≤◌, ◌+◌, cond, ℕ, suc, true, List, [], ◌∷◌, ◌++◌, length, map, drop, get_or, Option, sym, ap, ◌∙◌, add-one, append-nil, append_assoc, drop-cons}
use Rattle.std.specs.Prelude.{fold}
use Rattle.std.proofs.lemmas.List.{drop_all}
use Rattle.mcv_base.specs.declared.reply.Outcome.{Outcome}
use Rattle.mcv_route.specs.declared.launch.Launch.{Launch}
use Rattle.mcv_route.specs.Children.{joined}
use Rattle.mcv_rules.specs.Arrivals.{goes_on_after, next_arrived}
use Rattle.mcv_rules.specs.PlanInMemory.{Sent, legs_each, searched, next_reply, replies_each}
use Rattle.mcv_rules.specs.Plan.{both}
use Rattle.mcv_rules.specs.declared.arrival.After.{After}
use Rattle.mcv_rules.specs.declared.arrival.Arrival.{Arrival}
use Rattle.mcv_rules.specs.declared.plan.Plan.{Plan}
use Rattle.mcv_rules.proofs.StoppedSearch.{no_legs}

-- one plan more, before which the search goes on
pub legs_on : (w : After) (F : Plan → Sent) (plans : List Plan) (i : ℕ) (p : Plan) (found found2 all : List Launch) (r r2 : Option Outcome) → i < length plans → p ≡ get_or plans i p → goes_on_after w r ≡ true
    → found2 ≡ found ++ (F p).legs → r2 ≡ (F p).reply → found ++ cond (goes_on_after w r) (searched w (map F (drop i plans))) [] ≡ all
    → found2 ++ cond (goes_on_after w r2) (searched w (map F (drop (i + 1) plans))) [] ≡ all
legs_on w F plans i p found found2 all r r2 h is on f e inv =
    let here : found ++ ((F p).legs ++ cond (goes_on_after w (F p).reply) (searched w (map F (drop (suc i) plans))) []) ≡ all = (rw (on, drop-cons plans i p h, ← is) at inv) in
    rw (add-one i, f, e) (append_assoc found (F p).legs (cond (goes_on_after w (F p).reply) (searched w (map F (drop (suc i) plans))) []) ∙ here)

pub reply_on : (w : After) (F : Plan → Sent) (plans : List Plan) (i : ℕ) (p : Plan) (r r2 all : Option Outcome) → i < length plans → p ≡ get_or plans i p → goes_on_after w r ≡ true
    → r2 ≡ (F p).reply → fold (next_reply w) r (replies_each (map F (drop i plans))) ≡ all → fold (next_reply w) r2 (replies_each (map F (drop (i + 1) plans))) ≡ all
reply_on w F plans i p r r2 all h is on e inv =
    let more = replies_each (map F (drop (suc i) plans)) in
    let here : fold (next_reply w) (next_reply w r (F p).reply) more ≡ all = (rw (drop-cons plans i p h, ← is) at inv) in
    rw (add-one i, e) (ap (λ y. fold (next_reply w) y more) (sym (ap (λ b. cond b (F p).reply r) on)) ∙ here)

-- all plans have been gone through
pub legs_end : (w : After) (F : Plan → Sent) (first : Plan) (others plans : List Plan) (i : ℕ) (old start found : List Launch) (r0 r : Option Outcome) → plans ≡ first ∷ others → length others ≤ i
    → start ≡ old ++ (F first).legs → r0 ≡ (F first).reply
    → found ++ cond (goes_on_after w r) (searched w (map F (drop i others))) [] ≡ start ++ cond (goes_on_after w r0) (searched w (map F others)) [] → found ≡ old ++ searched w (map F plans)
legs_end w F first others plans i old start found r0 r is h s e inv =
    let nothing : drop i others ≡ [] = drop_all i others h in
    let whole : found ≡ start ++ cond (goes_on_after w r0) (searched w (map F others)) [] = sym (no_legs found (goes_on_after w r)) ∙ ap (λ ps. found ++ cond (goes_on_after w r) (searched w (map F ps)) []) (sym nothing) ∙ inv in
    whole ∙ rw (is, s, e) (append_assoc old (F first).legs (cond (goes_on_after w (F first).reply) (searched w (map F others)) []))

-- one plan's answer more
pub answer_on : (w : After) (F : Plan → Arrival) (plans : List Plan) (i : ℕ) (p : Plan) (a a2 all : Arrival) → i < length plans → p ≡ get_or plans i p
    → a2 ≡ next_arrived w a (F p) → fold (next_arrived w) a (map F (drop i plans)) ≡ all → fold (next_arrived w) a2 (map F (drop (i + 1) plans)) ≡ all
answer_on w F plans i p a a2 all h is e inv =
    let here : fold (next_arrived w) (next_arrived w a (F p)) (map F (drop (suc i) plans)) ≡ all = (rw (drop-cons plans i p h, ← is) at inv) in
    rw (add-one i, e) here

-- ---- all at once

-- one plan's legs more
pub all_on : (F : Plan → Sent) (plans : List Plan) (i : ℕ) (p : Plan) (found found2 all : List Launch) → i < length plans → p ≡ get_or plans i p
    → found2 ≡ found ++ (F p).legs → found ++ joined (legs_each (map F (drop i plans))) ≡ all → found2 ++ joined (legs_each (map F (drop (i + 1) plans))) ≡ all
all_on F plans i p found found2 all h is f inv =
    let more = joined (legs_each (map F (drop (suc i) plans))) in
    let here : found ++ ((F p).legs ++ more) ≡ all = (rw (drop-cons plans i p h, ← is) at inv) in
    rw (add-one i, f) (append_assoc found (F p).legs more ∙ here)

-- one plan's reply more
pub worse_on : (F : Plan → Sent) (plans : List Plan) (i : ℕ) (p : Plan) (r next r2 all : Option Outcome) → i < length plans → p ≡ get_or plans i p
    → next ≡ (F p).reply → r2 ≡ both r next → fold both r (replies_each (map F (drop i plans))) ≡ all → fold both r2 (replies_each (map F (drop (i + 1) plans))) ≡ all
worse_on F plans i p r next r2 all h is e w inv =
    let here : fold both (both r (F p).reply) (replies_each (map F (drop (suc i) plans))) ≡ all = (rw (drop-cons plans i p h, ← is) at inv) in
    rw (add-one i, w, e) here

-- all have been gone through
pub all_end : (F : Plan → Sent) (first : Plan) (others plans : List Plan) (i : ℕ) (old start found : List Launch) → plans ≡ first ∷ others → length others ≤ i → start ≡ old ++ (F first).legs
    → found ++ joined (legs_each (map F (drop i others))) ≡ start ++ joined (legs_each (map F others)) → found ≡ old ++ joined (legs_each (map F plans))
all_end F first others plans i old start found is h s inv =
    let nothing : drop i others ≡ [] = drop_all i others h in
    let whole : found ≡ start ++ joined (legs_each (map F others)) = sym (append-nil found) ∙ ap (λ ps. found ++ joined (legs_each (map F ps))) (sym nothing) ∙ inv in
    whole ∙ rw (is, s) (append_assoc old (F first).legs (joined (legs_each (map F others))))
