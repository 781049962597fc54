-- A route's answer as the code keeps it: with the place of the outcome in the list, for the leg's position.
use Rattle.std.specs.Prelude.{ℕ, suc, max, Bool, false, List, [], ◌∷◌, Option, Some, None, option_map, unwrap_or, is_none, is_some, nat_lt, nat_le, ◌&&◌, ◌||◌, ◌==◌, if◌then◌else◌, length, map, fold}
use Rattle.std.specs.HashMap.{get_by}
use Rattle.std.specs.Str.{bytes_eq}
use Rattle.mcv_base.specs.declared.operation.Op.{Op}
use Rattle.mcv_base.specs.declared.reply.Outcome.{Outcome}
use Rattle.mcv_base.specs.declared.reply.FixedReply.{FixedReply}
use Rattle.mcv_base.specs.declared.reply.FixedReply.TheVariants.{ErrorRoute}
use Rattle.mcv_base.specs.Reply.{outcome_of, fixed_value, is_error, is_missed, badness}
use Rattle.mcv_route.specs.declared.launch.Answered.{Answered}
use Rattle.mcv_route.specs.Outcomes.{Outcomes, History, outcomes}
use Rattle.mcv_route.specs.Replies as replies
use Rattle.mcv_route.specs.Reply as reply
use Rattle.mcv_rules.specs.declared.arrival.After.{After}
use Rattle.mcv_rules.specs.declared.arrival.After.TheVariants as after
use Rattle.mcv_rules.specs.declared.arrival.Answer.{Answer}
use Rattle.mcv_rules.specs.declared.arrival.Arrival.{Arrival}
use Rattle.mcv_rules.specs.declared.known.Known.{Known}
use Rattle.mcv_rules.specs.declared.status.Source.TheVariants.{Fixed}
use Rattle.mcv_rules.specs.declared.status.Source.TheVariants.{Outcome as place}
use Rattle.mcv_rules.specs.History.{entry_of, history_of, place_of}
use Rattle.mcv_rules.specs.Status.{source_of}

-- an answer and its time, by the definitions' own
abbrev pub seen_answer : Op → List Answered → replies.Answer → Answer
seen_answer op answered a = record { outcome = a.outcome; source = source_of op answered a.source }

abbrev pub seen : Op → List Answered → reply.Arrival → Arrival
seen op answered a = record { answer = option_map (seen_answer op answered) a.answer; came = a.came }

abbrev pub arrived_at_once : FixedReply → Arrival
arrived_at_once f = record { answer = Some (record { outcome = outcome_of (fixed_value f); source = Fixed f }); came = 0 }

-- how many outcomes had come when the position had its own
abbrev pub heard_at : List ℕ → History → ℕ
heard_at p [] = 0
heard_at p (e ∷ es) = if is_none (outcomes es p) then suc (length es) else heard_at p es

-- the outcome at the position, if it has one, with its place in the list and when it came
abbrev pub own_found : List ℕ → List Answered → Option Arrival
own_found p answered =
    option_map (λ x. record { answer = Some (record { outcome = x; source = place (place_of answered p) }); came = heard_at p (history_of answered) })
    (outcomes (history_of answered) p)

-- that of the leg at the position
abbrev pub own_arrived : List Answered → List ℕ → Arrival
own_arrived answered p = unwrap_or (own_found p answered) (record { answer = None; came = length (history_of answered) })

-- ---- the table of outcomes

abbrev pub found_in : Known → List ℕ → Option Arrival
found_in known p = get_by (λ k. bytes_eq p k.now) known.arrivals

abbrev pub known_at : Known → List ℕ → Arrival
known_at known p = unwrap_or (found_in known p) (record { answer = None; came = known.count })

-- what the table has at a position once it has heard the entry with place n in the list
abbrev pub found_after : Known → ℕ → Answered → List ℕ → Option Arrival
found_after known n a p =
    if is_some (found_in known a.position) then found_in known p
    else if bytes_eq a.position p then Some (record { answer = Some (record { outcome = (entry_of a).1; source = place n }); came = suc known.count })
    else found_in known p

abbrev pub count_after : Known → Answered → ℕ
count_after known a = if is_some (found_in known a.position) then known.count else suc known.count

-- the outcomes that the answers of legs have
abbrev pub outcome_in : (List ℕ → Arrival) → Outcomes
outcome_in own p = option_map (λ a. a.outcome) (own p).answer

-- ---- two answers

abbrev pub weight : Option Answer → ℕ
weight None = 3
weight (Some a) = badness a.outcome

abbrev pub later : Arrival → Arrival → Arrival
later a b = if nat_lt (weight a.answer) (weight b.answer) || ((weight a.answer == weight b.answer) && nat_le a.came b.came) then b else a

-- that of all: the answer that prevails, once the last is there
abbrev pub all_arrived : List Arrival → Arrival
all_arrived [] = arrived_at_once ErrorRoute
all_arrived (a ∷ more) = record { answer = (fold later a more).answer; came = fold max a.came (map (λ b. b.came) more) }

-- the search goes on after this outcome
abbrev pub goes_on : After → Outcome → Bool
goes_on after.Error x = is_error x
goes_on after.Miss x = is_missed x

-- it goes on after this reply, once it is there
abbrev pub goes_on_after : After → Option Outcome → Bool
goes_on_after w None = false
goes_on_after w (Some x) = goes_on w x

-- the first answer, or where the search goes on the second, once both are there
abbrev pub next_arrived : After → Arrival → Arrival → Arrival
next_arrived w a b =
    if goes_on_after w (option_map (λ x. x.outcome) a.answer) then record { answer = b.answer; came = max a.came b.came } else a
