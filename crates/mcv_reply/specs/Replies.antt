-- The replies of one connection. A server answers the requests of a connection one after the other, so the first reply that comes is the oldest leg's.
use Rattle.std.specs.Prelude.{◌≡◌, ◌≢◌, ℕ, List, [], ◌∷◌, ◌++◌, length, Bool, true, false, All, Result, Ok, Err}
use Rattle.mcv_base.specs.declared.operation.Op.{Op}
use Rattle.mcv_base.specs.Key.{is_key_word}
use Rattle.mcv_base.specs.Reply.{ReplyValue}
use Rattle.mcv_reply.specs.declared.fault.ReplyFault.{ReplyFault}
use Rattle.mcv_reply.specs.declared.fault.ReplyFault.TheVariants as faults
use Rattle.mcv_reply.specs.Reader.{IsFront, IsNoReply}
use Rattle.mcv_reply.specs.Reply.{Spells}

-- a leg in flight: its operation and rest
pub record Leg : Type 0 where
  pub op : Op
  pub key : List ℕ

-- the legs in flight, oldest first, and the bytes of the oldest one's reply that have come; or closed
pub data Connection : Type 0 where
  Open : (legs : List Leg) → (held : List ℕ) → Connection
  Closed : Connection

-- replies are read
abbrev pub is_open : Connection → Bool
is_open (Open legs held) = true
is_open Closed = false

-- how many legs are in flight
abbrev pub flying : Connection → ℕ
flying (Open legs held) = length legs
flying Closed = 0

-- some of the oldest leg's reply has come
abbrev pub HasBegun : Connection → Type 0
HasBegun (Open legs held) = held ≢ []
HasBegun Closed = ⊥

-- the keys are key words
abbrev pub HaveKeys : List Leg → Type 0
HaveKeys legs = All (λ leg. is_key_word leg.key ≡ true) legs

-- the bytes are replies to the oldest legs, each leg's its own, and then the rest: the legs that are left have no reply yet
abbrev pub Replied : List Leg → List ℕ → List ReplyValue → List Leg → List ℕ → Type 0
Replied legs bytes [] left rest = (left ≡ legs) × (rest ≡ bytes)
Replied [] bytes (reply ∷ replies) left rest = ⊥
Replied (leg ∷ legs) bytes (reply ∷ replies) left rest = (own : List ℕ) × (more : List ℕ) × (bytes ≡ own ++ more) × Spells leg.op leg.key own reply × Replied legs more replies left rest

-- these bytes wait for more: they are the front of a reply to the oldest leg, and none where no leg is in flight
abbrev pub Waits : List Leg → List ℕ → Type 0
Waits [] bytes = bytes ≡ []
Waits (leg ∷ legs) bytes = IsFront leg.op leg.key bytes

-- these bytes are no reply: none to the oldest leg, or any where no leg is in flight
abbrev pub IsUnasked : List Leg → List ℕ → Type 0
IsUnasked [] bytes = bytes ≢ []
IsUnasked (leg ∷ legs) bytes = IsNoReply leg.op leg.key bytes

-- a leg is sent
abbrev pub Sends : Connection → Leg → Result Unit ReplyFault → Connection → Type 0
Sends (Open legs held) leg (Ok done) new = new ≡ Open (legs ++ leg ∷ []) held
Sends (Open legs held) leg (Err faults.NotAReply) new = ⊥
Sends (Open legs held) leg (Err faults.Closed) new = ⊥
Sends (Open legs held) leg (Err faults.Memory) new = new ≡ Open legs held
Sends Closed leg result new = (result ≡ Err faults.Closed) × (new ≡ Closed)

-- a piece comes: these are the replies that are whole with it. A fault closes; the replies before it are given, and the legs behind them have none
abbrev pub Receives : Connection → List ℕ → List ReplyValue → Result Unit ReplyFault → Connection → Type 0
Receives (Open legs held) piece replies (Ok done) new = (left : List Leg) × (rest : List ℕ) × Replied legs (held ++ piece) replies left rest × Waits left rest × (new ≡ Open left rest)
Receives (Open legs held) piece replies (Err faults.NotAReply) new = (left : List Leg) × (rest : List ℕ) × Replied legs (held ++ piece) replies left rest × IsUnasked left rest × (new ≡ Closed)
Receives (Open legs held) piece replies (Err faults.Closed) new = ⊥
Receives (Open legs held) piece replies (Err faults.Memory) new = (left : List Leg) × (rest : List ℕ) × Replied legs (held ++ piece) replies left rest × (new ≡ Closed)
Receives Closed piece replies result new = (replies ≡ []) × (result ≡ Err faults.Closed) × (new ≡ Closed)
