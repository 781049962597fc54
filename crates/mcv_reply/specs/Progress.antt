-- A reply that has come in part, and what each step makes of it. Only private functions speak of
-- this, and a reader's view and invariant; what the reader answers, Reader alone says.
use Rattle.std.specs.Prelude.{◌≡◌, ℕ, ◌<◌, ◌≤◌, Bool, List, [], ◌∷◌, ◌++◌, length, take, Option, Some, None, Result, Ok, Err}
use Rattle.mcv_base.specs.declared.operation.Op.{Op}
use Rattle.mcv_base.specs.declared.reply.Reply.{Reply}
use Rattle.mcv_base.specs.Reply.{hit, reply_value}
use Rattle.mcv_reply.specs.declared.word.Word.TheVariants as words
use Rattle.mcv_reply.specs.declared.word.Row.TheVariants as rows
use Rattle.mcv_reply.specs.declared.candidate.Head.{Head}
use Rattle.mcv_reply.specs.declared.fault.ReplyFault.{ReplyFault}
use Rattle.mcv_reply.specs.declared.fault.ReplyFault.TheVariants as faults
use Rattle.mcv_reply.specs.declared.progress.Stage.{Stage}
use Rattle.mcv_reply.specs.declared.progress.Stage.TheVariants as stages
use Rattle.mcv_reply.specs.declared.progress.Progress.{Progress}
use Rattle.mcv_reply.specs.declared.progress.Step.{Step}
use Rattle.mcv_reply.specs.Line.{IsLine}
use Rattle.mcv_reply.specs.Candidate.{IsKept}
use Rattle.mcv_reply.specs.Reply.{Spells, cas_said}
use Rattle.mcv_reply.specs.Reader.{BeginsNone, IsNoReply, ReaderState, Fed, Answered, Closed}

-- the line of a value, and what it says
abbrev pub IsHead : Op → List ℕ → Progress → Type 0
IsHead op key p = IsLine (rows.Reply op) key words.Value p.head p.first.items

abbrev pub bytes_at : Stage → Progress → List ℕ
bytes_at stages.Start p = []
bytes_at stages.Line p = p.text.items
bytes_at stages.Value p = p.first.items ++ 10 ∷ p.body.items
bytes_at stages.Return p = p.first.items ++ 10 ∷ (p.body.items ++ 13 ∷ [])
bytes_at stages.Last p = p.first.items ++ 10 ∷ (p.body.items ++ 13 ∷ 10 ∷ p.text.items)
bytes_at stages.Answered p = []
bytes_at stages.Closed p = []

abbrev pub reader_state_at : Stage → Progress → ReaderState
reader_state_at stages.Start p = Fed (bytes_at stages.Start p)
reader_state_at stages.Line p = Fed (bytes_at stages.Line p)
reader_state_at stages.Value p = Fed (bytes_at stages.Value p)
reader_state_at stages.Return p = Fed (bytes_at stages.Return p)
reader_state_at stages.Last p = Fed (bytes_at stages.Last p)
reader_state_at stages.Answered p = Answered
reader_state_at stages.Closed p = Closed

-- what is true of a reply that has come in part
abbrev pub IsAtStage : Op → List ℕ → Progress → Stage → Type 0
IsAtStage op key p stages.Start = Unit {0}
IsAtStage op key p stages.Line = IsKept (rows.Reply op) key p.text.items p.candidates.items × (0 < length p.candidates.items)
IsAtStage op key p stages.Value = IsHead op key p × (length p.body.items ≤ p.head.size)
IsAtStage op key p stages.Return = IsHead op key p × (length p.body.items ≡ p.head.size)
IsAtStage op key p stages.Last = IsHead op key p × (length p.body.items ≡ p.head.size) × IsKept rows.AfterValue key p.text.items p.candidates.items × (0 < length p.candidates.items)
IsAtStage op key p stages.Answered = Unit {0}
IsAtStage op key p stages.Closed = Unit {0}

abbrev pub IsAt : Op → List ℕ → Progress → Type 0
IsAt op key p = IsAtStage op key p p.stage

-- a step from bytes by a piece: the bytes used have been read, or are the end of a reply, or the bytes are no reply
abbrev pub StepMakes : Op → List ℕ → List ℕ → List ℕ → Option Reply → Progress → Type 0
StepMakes op key bytes used None new = IsAt op key new × (reader_state_at new.stage new ≡ Fed (bytes ++ used))
StepMakes op key bytes used (Some reply) new = Spells op key (bytes ++ used) (reply_value reply)

abbrev pub Steps : Op → List ℕ → List ℕ → List ℕ → Result Step ReplyFault → Progress → Type 0
Steps op key bytes piece (Ok step) new = (0 < step.used) × (step.used ≤ length piece) × StepMakes op key bytes (take step.used piece) step.reply new
Steps op key bytes piece (Err faults.NotAReply) new = IsNoReply op key (bytes ++ piece)
Steps op key bytes piece (Err faults.Closed) new = ⊥
Steps op key bytes piece (Err faults.Memory) new = Unit {0}

-- the hit that this head and value make
abbrev pub HitMade : Bool → Head → List ℕ → Result Reply ReplyFault → Type 0
HitMade cas head value (Ok reply) = reply_value reply ≡ hit head.flags (cas_said cas head.cas) value
HitMade cas head value (Err faults.NotAReply) = ⊥
HitMade cas head value (Err faults.Closed) = ⊥
HitMade cas head value (Err faults.Memory) = Unit {0}

-- the first line has ended: a value is to come, it is a reply, or it is none
abbrev pub FirstEnds : Op → List ℕ → List ℕ → Result (Option Reply) ReplyFault → Progress → Type 0
FirstEnds op key line (Ok None) new = IsAt op key new × (reader_state_at new.stage new ≡ Fed (line ++ 10 ∷ []))
FirstEnds op key line (Ok (Some reply)) new = Spells op key (line ++ 10 ∷ []) (reply_value reply)
FirstEnds op key line (Err faults.NotAReply) new = (rest : List ℕ) → IsNoReply op key (line ++ 10 ∷ rest)
FirstEnds op key line (Err faults.Closed) new = ⊥
FirstEnds op key line (Err faults.Memory) new = Unit {0}

-- the last line has ended
abbrev pub LastEnds : Op → List ℕ → List ℕ → Result Reply ReplyFault → Type 0
LastEnds op key bytes (Ok reply) = Spells op key (bytes ++ 10 ∷ []) (reply_value reply)
LastEnds op key bytes (Err faults.NotAReply) = (rest : List ℕ) → IsNoReply op key (bytes ++ 10 ∷ rest)
LastEnds op key bytes (Err faults.Closed) = ⊥
LastEnds op key bytes (Err faults.Memory) = Unit {0}

-- a whole piece has been read, and these are all bytes
abbrev pub ReadsPiece : Op → List ℕ → List ℕ → Result (Option Reply) ReplyFault → Progress → Type 0
ReadsPiece op key bytes (Ok None) new = IsAt op key new × (reader_state_at new.stage new ≡ Fed bytes)
ReadsPiece op key bytes (Ok (Some reply)) new = Spells op key bytes (reply_value reply)
ReadsPiece op key bytes (Err faults.NotAReply) new = BeginsNone op key bytes
ReadsPiece op key bytes (Err faults.Closed) new = ⊥
ReadsPiece op key bytes (Err faults.Memory) new = Unit {0}
