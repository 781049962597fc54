-- Legs in flight and the oldest one's reply, as the reader of a connection's replies keeps them; what it answers, Replies alone says.
use Rattle.std.specs.Prelude.{◌≡◌, ◌≢◌, ℕ, ◌<◌, ◌≤◌, Bool, true, false, List, [], ◌∷◌, ◌++◌, length, take, Option, Some, None, Result, Ok, Err, if◌then◌else◌}
use Rattle.mcv_base.specs.declared.reply.Reply.{Reply}
use Rattle.mcv_base.specs.Reply.{ReplyValue, reply_value}
use Rattle.mcv_reply.specs.declared.fault.ReplyFault.{ReplyFault}
use Rattle.mcv_reply.specs.declared.fault.ReplyFault.TheVariants as faults
use Rattle.mcv_reply.specs.declared.progress.Stage.{Stage}
use Rattle.mcv_reply.specs.declared.progress.Stage.TheVariants as stages
use Rattle.mcv_reply.specs.declared.progress.Progress.{Progress}
use Rattle.mcv_reply.specs.declared.progress.Step.{Step}
use Rattle.mcv_reply.specs.Reply.{Spells}
use Rattle.mcv_reply.specs.Progress.{IsAt, bytes_at}
use Rattle.mcv_reply.specs.Replies.{Connection, Open, Closed, HaveKeys, IsUnasked, Leg, Replied}

-- nothing is read any more
abbrev pub is_over : Stage → Bool
is_over stages.Start = false
is_over stages.Line = false
is_over stages.Value = false
is_over stages.Return = false
is_over stages.Last = false
is_over stages.Answered = true
is_over stages.Closed = true

-- what has come of the reply that is being read
abbrev pub held_in : Progress → List ℕ
held_in p = bytes_at p.stage p

-- some of it has come
abbrev pub HasCome : Stage → Progress → Type 0
HasCome stages.Start p = ⊥
HasCome stages.Line p = bytes_at stages.Line p ≢ []
HasCome stages.Value p = bytes_at stages.Value p ≢ []
HasCome stages.Return p = bytes_at stages.Return p ≢ []
HasCome stages.Last p = bytes_at stages.Last p ≢ []
HasCome stages.Answered p = ⊥
HasCome stages.Closed p = ⊥

abbrev pub connection_of : List Leg → Progress → Connection
connection_of legs p = if is_over p.stage then Closed else Open legs (held_in p)

-- the oldest leg's reply is being read, and where no leg is in flight nothing has come
abbrev pub IsRead : List Leg → Progress → Type 0
IsRead [] p = p.stage ≡ stages.Start
IsRead (leg ∷ legs) p = IsAt leg.op leg.key p × (is_over p.stage ≡ false)

pub record IsFlight (legs : List Leg) (p : Progress) : Type 0 where
  pub keys : HaveKeys legs
  pub is_read : IsRead legs p

-- the list begins with the leg
abbrev pub Leads : Leg → List Leg → Type 0
Leads leg legs = (behind : List Leg) × (legs ≡ leg ∷ behind)

-- one step: the bytes have been read, or are the oldest leg's reply
abbrev pub OldestMakes : List Leg → List ℕ → Option Reply → List Leg → List ℕ → Type 0
OldestMakes legs bytes None left held = (left ≡ legs) × (held ≡ bytes)
OldestMakes legs bytes (Some reply) left held = (leg : Leg) × (legs ≡ leg ∷ left) × Spells leg.op leg.key bytes (reply_value reply) × (held ≡ [])

abbrev pub OldestSteps : List Leg → Progress → List ℕ → Result Step ReplyFault → List Leg → Progress → Type 0
OldestSteps legs p piece (Ok step) left new = (0 < step.used) × (step.used ≤ length piece) × IsFlight left new × OldestMakes legs (held_in p ++ take step.used piece) step.reply left (held_in new)
OldestSteps legs p piece (Err faults.NotAReply) left new = IsUnasked legs (held_in p ++ piece)
OldestSteps legs p piece (Err faults.Closed) left new = ⊥
OldestSteps legs p piece (Err faults.Memory) left new = Unit {0}

-- a whole piece
abbrev pub ReadsReplies : List Leg → List ℕ → List ReplyValue → Result Unit ReplyFault → List Leg → Progress → Type 0
ReadsReplies legs bytes replies (Ok done) left new = IsFlight left new × Replied legs bytes replies left (held_in new)
ReadsReplies legs bytes replies (Err faults.NotAReply) left new = (over : List Leg) × (rest : List ℕ) × Replied legs bytes replies over rest × IsUnasked over rest
ReadsReplies legs bytes replies (Err faults.Closed) left new = ⊥
ReadsReplies legs bytes replies (Err faults.Memory) left new = (over : List Leg) × (rest : List ℕ) × Replied legs bytes replies over rest
