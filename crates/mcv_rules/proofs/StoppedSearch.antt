-- A search that stops leaves its reply, its answer and its legs as they are.
use Rattle.std.proofs.Common.{◌≡◌, cond, Bool, true, false, List, [], ◌∷◌, ◌++◌, append-nil, Option, refl, ap, ◌∙◌, option_map, max}
use Rattle.std.specs.Prelude.{fold}
use Rattle.mcv_base.specs.declared.reply.Outcome.{Outcome}
use Rattle.mcv_rules.specs.Arrivals.{goes_on_after, next_arrived}
use Rattle.mcv_rules.specs.PlanInMemory.{next_reply}
use Rattle.mcv_rules.specs.declared.arrival.After.{After}
use Rattle.mcv_rules.specs.declared.arrival.Arrival.{Arrival}

-- and nothing is left after the last plan
pub no_legs : {A : Type 0} (found : List A) (b : Bool) → found ++ cond b [] [] ≡ found
no_legs found true = append-nil found
no_legs found false = append-nil found

pub reply_stops : (w : After) (r : Option Outcome) (more : List (Option Outcome)) → goes_on_after w r ≡ false → fold (next_reply w) r more ≡ r
reply_stops w r [] e = refl
reply_stops w r (x ∷ more) e = ap (λ y. fold (next_reply w) y more) (ap (λ b. cond b x r) e) ∙ reply_stops w r more e

pub answer_stops : (w : After) (a : Arrival) (more : List Arrival) → goes_on_after w (option_map (λ x. x.outcome) a.answer) ≡ false → fold (next_arrived w) a more ≡ a
answer_stops w a [] e = refl
answer_stops w a (b ∷ more) e =
    ap (λ y. fold (next_arrived w) y more) (ap (λ c. cond c (record { answer = b.answer; came = max a.came b.came }) a) e) ∙ answer_stops w a more e
