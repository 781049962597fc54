-- Whether a connection is open, step by step.
use Rattle.std.proofs.Common.{◌≡◌, ◌∙◌, ℕ, true, false, List, [], refl, sym, ap, Result, Ok, Err}
use Rattle.mcv_base.specs.declared.request.LegId.{LegId}
use Rattle.mcv_base.specs.Reply.{ReplyValue}
use Rattle.mcv_pipeline.specs.Pipeline.{PipelineValue, SendsLeg}
use Rattle.mcv_reply.specs.declared.fault.ReplyFault.{ReplyFault}
use Rattle.mcv_reply.specs.declared.fault.ReplyFault.TheVariants as faults
use Rattle.mcv_reply.specs.Replies.{Connection, Open, Closed, Leg, Receives, Sends, is_open}

-- a leg is sent over an open connection alone, and it stays open; a fault leaves it as it was
pub open_sent : (old new : Connection) (leg : Leg) → Sends old leg (Ok tt) new → is_open old ≡ true
open_sent (Open legs held) new leg s = refl
open_sent Closed new leg s = let e = s.0 in absurd (cc)

pub stays_sent : (old new : Connection) (leg : Leg) → Sends old leg (Ok tt) new → is_open new ≡ is_open old
stays_sent (Open legs held) new leg s = ap is_open s
stays_sent Closed new leg s = let e = s.0 in absurd (cc)

pub stays_refused : (old new : Connection) (leg : Leg) (fault : ReplyFault) → Sends old leg (Err fault) new → new ≡ old
stays_refused (Open legs held) new leg faults.NotAReply s = absurd s
stays_refused (Open legs held) new leg faults.Closed s = absurd s
stays_refused (Open legs held) new leg faults.Memory s = s
stays_refused Closed new leg fault s = s.1

-- a piece leaves it open, and a fault closes it
pub stays_received : (old new : Connection) (piece : List ℕ) (replies : List ReplyValue) → Receives old piece replies (Ok tt) new → is_open new ≡ is_open old
stays_received (Open legs held) new piece replies r = ap is_open r.4
stays_received Closed new piece replies r = let e = r.1 in absurd (cc)

pub closed_received : (old new : Connection) (piece : List ℕ) (replies : List ReplyValue) (fault : ReplyFault) → Receives old piece replies (Err fault) new → is_open new ≡ false
closed_received (Open legs held) new piece replies faults.NotAReply r = ap is_open r.4
closed_received (Open legs held) new piece replies faults.Closed r = absurd r
closed_received (Open legs held) new piece replies faults.Memory r = ap is_open r.3
closed_received Closed new piece replies fault r = ap is_open r.2

sends_closed : (old : Connection) (leg : Leg) → is_open old ≡ false → Sends old leg (Err faults.Closed) old
sends_closed (Open legs held) leg now = absurd (cc)
sends_closed Closed leg now = (refl, refl)

sends_memory : (old : Connection) (leg : Leg) → is_open old ≡ true → Sends old leg (Err faults.Memory) old
sends_memory (Open legs held) leg now = refl
sends_memory Closed leg now = absurd (cc)

-- over a closed connection no leg is sent, and over an open one none for which there is no memory
pub refused_closed : (old : PipelineValue) (number : LegId) (leg : Leg) → is_open old.connection ≡ false → SendsLeg old number leg (Err faults.Closed) old
refused_closed old number leg now = record { sends = sends_closed old.connection leg now; legs = refl }

pub refused_memory : (old : PipelineValue) (number : LegId) (leg : Leg) → is_open old.connection ≡ true → SendsLeg old number leg (Err faults.Memory) old
refused_memory old number leg now = record { sends = sends_memory old.connection leg now; legs = refl }
