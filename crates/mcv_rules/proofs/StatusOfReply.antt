-- What a call is answered: its legs, and what its status says of the reply.
use Rattle.std.proofs.Common.{◌≡◌, ℕ, [], List, Option, Some, None, refl, sym, ap, ◌∙◌, subst}
use Rattle.std.specs.Prelude.{option_map, slice_index}
use Rattle.mcv_base.specs.declared.operation.Mark.TheVariants.{Plain}
use Rattle.mcv_base.specs.declared.operation.Op.{Op}
use Rattle.mcv_base.specs.declared.reply.Outcome.{Outcome}
use Rattle.mcv_route.specs.declared.launch.Answered.{Answered}
use Rattle.mcv_route.specs.Outcomes.{outcomes}
use Rattle.mcv_route.specs.Tree.{Tree}
use Rattle.mcv_route.specs.Situation.{Situation}
use Rattle.mcv_route.specs.Replies.{Source, leg, fixed, refusal, Answer, replies}
use Rattle.mcv_route.specs.Launched.{launched}
use Rattle.mcv_route.specs.Reply.{reply}
use Rattle.mcv_rules.specs.Arrivals.{known_at, outcome_in, own_arrived, seen_answer}
use Rattle.mcv_rules.specs.RouteCall.{Called, situation_of}
use Rattle.mcv_rules.specs.PlanInMemory.{Serves, arrived, sent, situation_at}
use Rattle.mcv_rules.specs.declared.arrival.Answer.{Answer as SeenAnswer}
use Rattle.mcv_rules.specs.declared.arrival.Arrival.{Arrival}
use Rattle.mcv_rules.specs.declared.asked.Asked.{Asked}
use Rattle.mcv_rules.specs.declared.known.Known.{Known}
use Rattle.mcv_rules.specs.declared.plan.Plan.{Plan}
use Rattle.mcv_rules.specs.declared.status.Status.{Status}
use Rattle.mcv_rules.specs.declared.status.Status.TheVariants.{Waits, Replied}
use Rattle.mcv_rules.specs.Laws.{outcome_at, IsOneOf}
use Rattle.mcv_rules.specs.History.{history_of}
use Rattle.mcv_rules.specs.Status.{source_of, source_outcome, status_of, status_outcome}
use Rattle.mcv_rules.proofs.OneReply
use Rattle.mcv_rules.proofs.KnownIsHistory.{own_outcome, outcome_at_place, outcome_first}
use Rattle.mcv_rules.proofs.Serving.{default_is_soft}
use Rattle.mcv_rules.proofs.AnswersAreTrue

source_of_reply : (op : Op) (xs : List Answered) (source : Source) (x : Outcome) → outcome_at (outcomes (history_of xs)) source ≡ Some x → source_outcome xs (source_of op xs source) ≡ Some x
source_of_reply op xs (leg p) x e = outcome_at_place xs p ∙ sym (outcome_first xs p) ∙ e
source_of_reply op xs fixed x e = ap Some (default_is_soft op) ∙ e
source_of_reply op xs refusal x e = e

answer_of_reply : (op : Op) (xs : List Answered) (t : Tree) (s : Situation) (r : Option Answer) → reply t s (history_of xs) ≡ r → status_outcome xs (status_of op xs r) ≡ option_map (λ a. a.outcome) r
answer_of_reply op xs t s None e = refl
answer_of_reply op xs t s (Some a) e =
    source_of_reply op xs a.source a.outcome
    (AnswersAreTrue.answers_are_true t s (outcomes (history_of xs)) a (subst (λ r. IsOneOf r (replies t s (outcomes (history_of xs)))) e (OneReply.reply_is_one_of t s (history_of xs))))

pub status_of_reply : (op : Op) (xs : List Answered) (t : Tree) (s : Situation) → status_outcome xs (status_of op xs (reply t s (history_of xs))) ≡ option_map (λ a. a.outcome) (reply t s (history_of xs))
status_of_reply op xs t s = answer_of_reply op xs t s (reply t s (history_of xs)) refl

-- ---- by the plan that serves the route

-- what an answer says
abbrev pub status_from : Option SeenAnswer → Status
status_from None = Waits
status_from (Some a) = Replied a.source

status_seen : (op : Op) (xs : List Answered) (r : Option Answer) → status_from (option_map (seen_answer op xs) r) ≡ status_of op xs r
status_seen op xs None = refl
status_seen op xs (Some a) = refl

status_served : (p : Plan) (known : Known) (xs : List Answered) (t : Tree) (s : Situation) (a : Arrival) → a ≡ arrived (known_at known) p → known_at known ≡ own_arrived xs → Serves p t s
    → status_from a.answer ≡ status_of s.op xs (reply t s (history_of xs))
status_served p known xs t s a e k f = ap (λ x. status_from x.answer) (e ∙ ap (λ own. arrived own p) k ∙ f.answers xs) ∙ status_seen s.op xs (reply t s (history_of xs))

outcomes_known : (known : Known) (xs : List Answered) → known_at known ≡ own_arrived xs → outcome_in (known_at known) ≡ outcomes (history_of xs)
outcomes_known known xs k = ap outcome_in k ∙ (λ i p. own_outcome xs p i)

-- what is asked of the whole route
abbrev pub called : Tree → Asked → List ℕ → Called
called t a choice = record { tree = t; op = a.op; rest = a.rest.now; since = option_map (λ m. m.0) a.since; choice = choice }

pub status_called : (call : Called) (t : Tree) (a : Asked) (choice : List ℕ) (p : Plan) (known : Known) (xs : List Answered) (r : Arrival) → called t a choice ≡ call → a.mark ≡ Plain → Serves p t (situation_at a [])
    → r ≡ arrived (known_at known) p → known_at known ≡ own_arrived xs → status_from r.answer ≡ status_of call.op xs (reply call.tree (situation_of call) (history_of xs))
status_called call t a choice p known xs r is m f e k =
    let here : status_from r.answer ≡ status_of a.op xs (reply t (situation_of (called t a choice)) (history_of xs)) = (rw m at (status_served p known xs t (situation_at a []) r e k f)) in
    subst (λ (c : Called). status_from r.answer ≡ status_of c.op xs (reply c.tree (situation_of c) (history_of xs))) is here

pub launched_called : (call : Called) (t : Tree) (a : Asked) (choice : List ℕ) (p : Plan) (known : Known) (xs : List Answered) → called t a choice ≡ call → a.mark ≡ Plain → Serves p t (situation_at a [])
    → known_at known ≡ own_arrived xs → (sent (slice_index choice) (outcome_in (known_at known)) p).legs ≡ launched call.tree (situation_of call) (slice_index call.choice) (outcomes (history_of xs))
launched_called call t a choice p known xs is m f k =
    let here : (sent (slice_index choice) (outcomes (history_of xs)) p).legs ≡ launched t (situation_of (called t a choice)) (slice_index choice) (outcomes (history_of xs)) = (rw m at (f.sends (slice_index choice) (outcomes (history_of xs)))) in
    ap (λ o. (sent (slice_index choice) o p).legs) (outcomes_known known xs k)
    ∙ subst (λ (c : Called). (sent (slice_index choice) (outcomes (history_of xs)) p).legs ≡ launched c.tree (situation_of c) (slice_index c.choice) (outcomes (history_of xs))) is here
