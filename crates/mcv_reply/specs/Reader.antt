-- The state of a reader of one reply, and what it answers.
use Rattle.std.specs.Prelude.{◌≡◌, ℕ, List, ◌++◌, Option, Some, None, Result, Ok, Err}
use Rattle.mcv_base.specs.declared.operation.Op.{Op}
use Rattle.mcv_base.specs.declared.reply.Reply.{Reply}
use Rattle.mcv_base.specs.Reply.{ReplyValue, reply_value}
use Rattle.mcv_reply.specs.declared.fault.ReplyFault.{ReplyFault}
use Rattle.mcv_reply.specs.declared.fault.ReplyFault.TheVariants as faults
use Rattle.mcv_reply.specs.Reply.{Spells}

abbrev pub fault_number : ReplyFault → ℕ
fault_number faults.NotAReply = 1
fault_number faults.Closed = 2
fault_number faults.Memory = 3

-- the bytes fed, or that a reply was given, or a fault
pub data ReaderState : Type 0 where
  Fed : List ℕ → ReaderState
  Answered : ReaderState
  Closed : ReaderState

-- a reader for a leg of this operation and rest
pub record Reading : Type 0 where
  pub op : Op
  pub key : List ℕ
  pub state : ReaderState

-- no reply goes on from the bytes
abbrev pub BeginsNone : Op → List ℕ → List ℕ → Type 0
BeginsNone op key bytes = (more : List ℕ) (reply : ReplyValue) → Spells op key (bytes ++ more) reply → ⊥

-- the bytes begin with no reply, and none goes on from them
abbrev pub IsNoReply : Op → List ℕ → List ℕ → Type 0
IsNoReply op key bytes = (more own rest : List ℕ) (reply : ReplyValue) → bytes ++ more ≡ own ++ rest → Spells op key own reply → ⊥

-- the bytes are the front of a reply, and none themselves
abbrev pub IsFront : Op → List ℕ → List ℕ → Type 0
IsFront op key bytes = ((reply : ReplyValue) → Spells op key bytes reply → ⊥) × ((more : List ℕ) × (reply : ReplyValue) × Spells op key (bytes ++ more) reply)

-- what the reader answers where these are all bytes fed, and its state then
abbrev pub Answers : Op → List ℕ → List ℕ → Result (Option Reply) ReplyFault → ReaderState → Type 0
Answers op key bytes (Ok (Some reply)) new = Spells op key bytes (reply_value reply) × (new ≡ Answered)
Answers op key bytes (Ok None) new = IsFront op key bytes × (new ≡ Fed bytes)
Answers op key bytes (Err faults.NotAReply) new = BeginsNone op key bytes × (new ≡ Closed)
Answers op key bytes (Err faults.Closed) new = ⊥
Answers op key bytes (Err faults.Memory) new = new ≡ Closed

abbrev pub FeedsAt : Op → List ℕ → ReaderState → List ℕ → Result (Option Reply) ReplyFault → ReaderState → Type 0
FeedsAt op key (Fed bytes) piece result new = Answers op key (bytes ++ piece) result new
FeedsAt op key Answered piece result new = (result ≡ Err faults.NotAReply) × (new ≡ Closed)
FeedsAt op key Closed piece result new = (result ≡ Err faults.Closed) × (new ≡ Closed)

-- one piece: the reader stays one for its leg
pub record Feeds (old : Reading) (piece : List ℕ) (result : Result (Option Reply) ReplyFault) (new : Reading) : Type 0 where
  pub op : new.op ≡ old.op
  pub key : new.key ≡ old.key
  pub answers : FeedsAt old.op old.key old.state piece result new.state
