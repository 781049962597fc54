-- That a part of a course does what a part of a plan does: it answers what the plan answers, and sends what the plan sends.
use Rattle.std.specs.Prelude.{◌≡◌, ℕ, true, List, map, Option, option_map}
use Rattle.mcv_base.specs.declared.reply.FixedReply.{FixedReply}
use Rattle.mcv_rules.specs.Arrivals as arrivals
use Rattle.mcv_route.specs.declared.launch.Launch.{Launch}
use Rattle.mcv_route.specs.Outcomes.{Choice}
use Rattle.mcv_rules.specs.PlanInMemory.{arrived, sent}
use Rattle.mcv_rules.specs.declared.arrival.Answer as answers
use Rattle.mcv_rules.specs.declared.arrival.Arrival.{Arrival}
use Rattle.mcv_rules.specs.declared.plan.Plan.{Plan}
use Rattle.mcv_rules.specs.declared.status.Source as sources
use Rattle.mcv_rules.specs.declared.status.Source.TheVariants as variants
use Rattle.mcv_plan.specs.declared.answer.Answer.{Answer}
use Rattle.mcv_plan.specs.declared.answer.Source.{Source}
use Rattle.mcv_plan.specs.declared.answer.Source.TheVariants.{Fixed}
use Rattle.mcv_plan.specs.ReachedAnswers.{Own, Reached}
use Rattle.mcv_plan.specs.State.{State, entries, holds, sends, answered}

-- an answer whose source has another name
abbrev pub said : (sources.Source → Source) → answers.Answer → Answer
said g a = record { outcome = a.outcome; source = g a.source }

abbrev pub reached_of : (sources.Source → Source) → Arrival → Option Reached
reached_of g a = option_map (λ x. record { answer = said g x; came = a.came }) a.answer

-- the legs' own outcomes, by their numbers, are those at their positions
abbrev pub IsOwnOf : (sources.Source → Source) → (List ℕ → Arrival) → (ℕ → List ℕ) → Own → List ℕ → Type 0
IsOwnOf g own position o ks = (k : ℕ) → holds k ks ≡ true → o k ≡ reached_of g (own (position k))

abbrev pub IsFixed : (sources.Source → Source) → Type 0
IsFixed g = (f : FixedReply) → g (variants.Fixed f) ≡ Fixed f

-- wherever the legs at these positions have these outcomes, the part answers what the plan answers
abbrev pub AnswersAs : (ℕ → List ℕ) → State → Plan → Type 0
AnswersAs position s p = (g : sources.Source → Source) → IsFixed g → (own : List ℕ → Arrival) (o : Own) → IsOwnOf g own position o (entries s) → answered o s ≡ reached_of g (arrived own p)

-- and has sent what the plan has sent
abbrev pub SendsAs : (ℕ → Launch) → Choice → State → Plan → Type 0
SendsAs legs c s p = (g : sources.Source → Source) → IsFixed g → (own : List ℕ → Arrival) (o : Own) → IsOwnOf g own (λ k. (legs k).position) o (entries s) → map legs (sends o s) ≡ (sent c (arrivals.outcome_in own) p).legs

-- the plan's reply is its answer's
abbrev pub RepliesAs : Choice → Plan → Type 0
RepliesAs c p = (own : List ℕ → Arrival) → (sent c (arrivals.outcome_in own) p).reply ≡ option_map (λ a. a.outcome) (arrived own p).answer
