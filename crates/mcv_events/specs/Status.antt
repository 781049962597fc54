-- What a call has recorded, as the code keeps it, the oldest first; and the part of it that is the call's reply (own).
use Rattle.std.specs.Prelude.{◌≡◌, List, [], ◌∷◌, Option, Some, None, ⊤, fold, option_map, slice_get}
use Rattle.mcv_base.specs.Reply.{ReplyValue, fixed_value, part_value}
use Rattle.mcv_route.specs.declared.launch.Answered.{Answered}
use Rattle.mcv_route.specs.Outcomes.{outcomes}
use Rattle.mcv_route.specs.Routes.{RoutesValue}
use Rattle.mcv_rules.specs.History as rules
use Rattle.mcv_rules.specs.Status.{status_of}
use Rattle.mcv_rules.specs.declared.status.Source.{Source}
use Rattle.mcv_rules.specs.declared.status.Source.TheVariants as sources
use Rattle.mcv_rules.specs.declared.status.Status.{Status}
use Rattle.mcv_rules.specs.declared.status.Status.TheVariants.{Waits, Replied}
use Rattle.mcv_world.specs.World.{Recorded, Call, history_of, answer_of, reply_of}

abbrev pub recorded_one : Answered → Recorded
recorded_one a = record { position = a.position; reply = part_value a.reply }

abbrev pub push : List Recorded → Answered → List Recorded
push recorded a = recorded_one a ∷ recorded

-- the code's list, read from its oldest entry on
abbrev pub recorded_all : List Answered → List Recorded
recorded_all answered = fold push [] answered

-- no position has two entries
abbrev pub AreNew : List Recorded → List Answered → Type 0
AreNew recorded [] = ⊤
AreNew recorded (a ∷ answered) = (outcomes (history_of recorded) a.position ≡ None) × AreNew (push recorded a) answered

-- the reply that a source names
abbrev pub source_value : List Answered → Source → Option ReplyValue
source_value answered (sources.Outcome place) = option_map (λ a. part_value a.reply) (slice_get answered place)
source_value answered (sources.Fixed reply) = Some (fixed_value reply)

abbrev pub status_value : List Answered → Status → Option ReplyValue
status_value answered Waits = None
status_value answered (Replied source) = source_value answered source

-- the rules read both lists alike
abbrev pub HistoriesAgree : Type 0
HistoriesAgree = (answered : List Answered) → AreNew [] answered → rules.history_of answered ≡ history_of (recorded_all answered)

-- the reply of a call is what its status names
abbrev pub StatusIsReply : Type 0
StatusIsReply =
    (r : RoutesValue) (call : Call) (answered : List Answered) → AreNew [] answered → call.recorded ≡ recorded_all answered
    → reply_of r call ≡ status_value answered (status_of call.op answered (answer_of r call))
