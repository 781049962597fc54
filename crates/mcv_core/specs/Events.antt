-- Each event of a core, once: of the view before, what comes in, the answer, the move that the event is, or none, and the view after (own).
-- A refusal comes exactly where its cause stands, the first in the order of the causes; it is no move and changes nothing. Memory alone may
-- run out without a cause that the view shows.
use Rattle.std.specs.Prelude.{◌≡◌, ◌≢◌, ◌≤◌, ◌<◌, ℕ, List, Option, None, Some, Result, Ok, Err, IfOk, IsSome, false, option_and_then, option_map}
use Rattle.mcv_base.specs.declared.operation.Op.{Op}
use Rattle.mcv_base.specs.declared.reply.FixedReply.TheVariants.{Lost}
use Rattle.mcv_base.specs.declared.reply.Part.{Part}
use Rattle.mcv_base.specs.declared.request.CallId.{CallId}
use Rattle.mcv_base.specs.declared.request.LegId.{LegId}
use Rattle.mcv_base.specs.declared.request.Moment.{Moment}
use Rattle.mcv_base.specs.declared.request.Request.{Request}
use Rattle.mcv_base.specs.declared.request.ServerId.{ServerId}
use Rattle.mcv_base.specs.Reply.{ReplyValue, fixed_value, not_found, part_value}
use Rattle.mcv_pools.specs.Symbol.{SymbolValue}
use Rattle.mcv_queues.specs.Marks.{checked_mark, no_mark}
use Rattle.mcv_queues.specs.Numbers.{IsLeast}
use Rattle.mcv_route.specs.Eras.{breaks_of, since_at}
use Rattle.mcv_spool.specs.declared.record.Stored.{Stored}
use Rattle.mcv_world.specs.Moves.{Move, Began, Taken, is_move, new_call}
use Rattle.mcv_world.specs.World.{reply_of}
use Rattle.mcv_events.specs.Rows as rows
use Rattle.mcv_events.specs.Rows.{world_of}
use Rattle.mcv_core.specs.Asking.{IsAsked, IsUnbegun}
use Rattle.mcv_core.specs.Beginning.{HasBegun}
use Rattle.mcv_core.specs.Chapters.{CanTurn, era_move, in_era, turned}
use Rattle.mcv_core.specs.CoreView.{CoreView, Does, Effect, HasEffect, IsBusy, IsFree, IsQuiet, Moved, Unmoved, answer_at, change_move, in_row_state, is_spooled, is_waiting, loss_at, lost_too_at, refusing_at, spooling_at, taken_view, with_flight, with_mark}
use Rattle.mcv_core.specs.declared.fault.CoreFault.{CoreFault}
use Rattle.mcv_core.specs.declared.fault.CoreFault.TheVariants.{UnknownPrefix, BadKey, LegsFull, ChapterFull, NothingWaiting, NoSuchLeg, Busy, ClockBack, Memory, NoSuchCall}
use Rattle.mcv_core.specs.declared.step.Step.{Step}
use Rattle.mcv_core.specs.declared.turn.Era.{Era}

-- the event is this move, or none, and leads to the view
pub record IsEvent (Event : Option Move → CoreView → Type 0) (w : CoreView) : Type 0 where
  pub move : Option Move
  pub event : Event move w

-- refused: its cause is there, it is no move, and nothing changes
pub record IsRefused (Cause : Type 0) (v : CoreView) (m : Option Move) (w : CoreView) : Type 0 where
  pub cause : Cause
  pub none : m ≡ None
  pub same : w ≡ v

-- ---- a call begins

-- the call for the key of this number fits and begins, under the next number
pub record Begins (v : CoreView) (chosen : SymbolValue → List ℕ → ℕ) (request : Request) (key : ℕ) (call : CallId) (m : Option Move) (w : CoreView) : Type 0 where
  pub op : Op
  pub route : ℕ
  pub rest : List ℕ
  pub choice : List ℕ
  pub asked : IsAsked v.routes chosen request key op route rest choice
  pub begun : HasBegun v w (new_call (world_of v.rows) op route rest choice) (Some request)
  pub number : call.0 ≡ v.rows.next_call
  pub move : m ≡ Some (Began op route rest choice)
  pub does : Moved v w (Began op route rest choice)

abbrev pub IsBegun : CoreView → (SymbolValue → List ℕ → ℕ) → Request → ℕ → Result CallId CoreFault → Option Move → CoreView → Type 0
IsBegun v chosen request key (Ok call) m w = Begins v chosen request key call m w
IsBegun v chosen request key (Err fault) m w = IsRefused (IsUnbegun v chosen request key fault) v m w

-- ---- a leg is sent

-- no leg can be sent: the server has as many in flight as it may, or no leg of it is in that state
abbrev pub IsUnsent : CoreView → (server : ℕ) → (ℕ → CoreView → Option ℕ → Type 0) → CoreFault → Type 0
IsUnsent v server First UnknownPrefix = ⊥
IsUnsent v server First BadKey = ⊥
IsUnsent v server First LegsFull = ⊥
IsUnsent v server First ChapterFull = ⊥
IsUnsent v server First NothingWaiting = IsFree v server × First server v None
IsUnsent v server First NoSuchLeg = ⊥
IsUnsent v server First Busy = IsBusy v server
IsUnsent v server First ClockBack = ⊥
IsUnsent v server First Memory = ⊥
IsUnsent v server First NoSuchCall = ⊥

-- the leg with the least number that waits for the server; None where none waits
abbrev pub IsFirstWaiting : (server : ℕ) → CoreView → Option ℕ → Type 0
IsFirstWaiting server v leg = IsLeast (λ n. is_waiting server (v.rows.legs n)) leg

-- the same of those in the spool
abbrev pub IsFirstSpooled : (server : ℕ) → CoreView → Option ℕ → Type 0
IsFirstSpooled server v leg = IsLeast (λ n. is_spooled server (v.rows.legs n)) leg

-- the server is free, its first waiting leg is sent, and this leads to the view
pub record Sends (v : CoreView) (server : ServerId) (leg : LegId) (m : Option Move) (w : CoreView) : Type 0 where
  pub free : IsFree v server.0
  pub first : IsFirstWaiting server.0 v (Some leg.0)
  pub view : w ≡ with_flight (record v { rows = in_row_state v.rows leg.0 rows.Sent }) server.0
  pub none : m ≡ None
  pub does : Unmoved v w

abbrev pub IsNext : CoreView → ServerId → Result LegId CoreFault → Option Move → CoreView → Type 0
IsNext v server (Ok leg) m w = Sends v server leg m w
IsNext v server (Err fault) m w = IsRefused (IsUnsent v server.0 IsFirstWaiting fault) v m w

-- the server is free, and its first leg in the spool is sent again; it stays in the spool
pub record SendsAgain (v : CoreView) (server : ServerId) (leg : LegId) (m : Option Move) (w : CoreView) : Type 0 where
  pub free : IsFree v server.0
  pub first : IsFirstSpooled server.0 v (Some leg.0)
  pub view : w ≡ with_flight (record v { rows = in_row_state v.rows leg.0 rows.InReplay }) server.0
  pub none : m ≡ None
  pub does : Unmoved v w

abbrev pub IsReplay : CoreView → ServerId → Result LegId CoreFault → Option Move → CoreView → Type 0
IsReplay v server (Ok leg) m w = SendsAgain v server leg m w
IsReplay v server (Err fault) m w = IsRefused (IsUnsent v server.0 IsFirstSpooled fault) v m w

-- ---- what becomes of a leg

-- the move that the answer names, where the leg's reply was this
abbrev pub step_move : ℕ → ReplyValue → Result Step CoreFault → Option Move
step_move n x (Ok step) = change_move n x step.change
step_move n x (Err fault) = None

-- the effect is what happened: it says which answer there is, a refusal or not, and which view (*Effect*)
pub record Happens (e : Effect) (leg : LegId) (x : ReplyValue) (v : CoreView) (answer : Result Step CoreFault) (m : Option Move) (w : CoreView) : Type 0 where
  pub effect : HasEffect e v w answer
  pub move : m ≡ step_move leg.0 x answer
  pub does : IfOk answer (λ step. Does v w m)

-- a leg in flight was answered
abbrev pub IsAnsweredLeg : CoreView → LegId → ReplyValue → Result Step CoreFault → Option Move → CoreView → Type 0
IsAnsweredLeg v leg reply answer m w = Happens (answer_at v leg.0 reply) leg reply v answer m w

-- or was lost, and its server has one failure more
abbrev pub IsLostLeg : CoreView → LegId → Result Step CoreFault → Option Move → CoreView → Type 0
IsLostLeg v leg answer m w = Happens (loss_at v leg.0) leg (fixed_value Lost) v answer m w

-- or was lost too, with the connection of which another leg's loss has told
abbrev pub IsLostTooLeg : CoreView → LegId → Result Step CoreFault → Option Move → CoreView → Type 0
IsLostTooLeg v leg answer m w = Happens (lost_too_at v leg.0) leg (fixed_value Lost) v answer m w

-- the spool took a held leg, as this record
abbrev pub IsSpooledLeg : CoreView → LegId → Stored → Result Step CoreFault → Option Move → CoreView → Type 0
IsSpooledLeg v leg stored answer m w = Happens (spooling_at v leg.0 stored.seq stored.«record».server stored.«record».rest) leg not_found v answer m w

-- or refused it
abbrev pub IsRefusedLeg : CoreView → LegId → Result Step CoreFault → Option Move → CoreView → Type 0
IsRefusedLeg v leg answer m w = Happens (refusing_at v leg.0) leg (fixed_value Lost) v answer m w

-- ---- marks

-- the server is marked, where three or more failures came in a row
pub record IsMarked (v : CoreView) (server : ServerId) (m : Option Move) (w : CoreView) : Type 0 where
  pub view : w ≡ with_mark v server.0 checked_mark
  pub none : m ≡ None
  pub does : Unmoved v w

-- the server's mark is taken away, and its failures with it
pub record IsUnmarked (v : CoreView) (server : ServerId) (m : Option Move) (w : CoreView) : Type 0 where
  pub view : w ≡ with_mark v server.0 (λ mark. no_mark)
  pub none : m ≡ None
  pub does : Unmoved v w

-- ---- the clock

-- the era of later calls, named where it is another one than before
abbrev pub IsNewEra : (old new : Option ℕ) → Option Era → Type 0
IsNewEra old new None = new ≡ old
IsNewEra old new (Some era) = (option_map (λ moment. moment.0) era.since ≡ new) × (new ≢ old)

-- the moment isn't earlier than the core's, and later calls have its era
pub record SetsClock (v : CoreView) (moment : Moment) (era : Option Era) (m : Option Move) (w : CoreView) : Type 0 where
  pub forward : v.moment ≤ moment.0
  pub view : w ≡ record (in_era v (since_at (breaks_of v.routes) moment.0)) { moment = moment.0 }
  pub era_is : IsNewEra v.rows.since w.rows.since era
  pub move : m ≡ era_move era
  pub does : Does v w m

abbrev pub IsClocked : CoreView → Moment → Result (Option Era) CoreFault → Option Move → CoreView → Type 0
IsClocked v moment (Ok era) m w = SetsClock v moment era m w
IsClocked v moment (Err fault) m w = IsRefused ((fault ≡ ClockBack) × (moment.0 < v.moment)) v m w

-- ---- chapters

-- nothing runs, is queued or in flight, and a new chapter begins, which an opening world opens
pub record Turns (v : CoreView) (m : Option Move) (w : CoreView) : Type 0 where
  pub can : CanTurn v
  pub view : w ≡ turned v
  pub quiet : IsQuiet w
  pub none : m ≡ None
  pub does : Unmoved v w

abbrev pub IsTurned : CoreView → Result (Unit {0}) CoreFault → Option Move → CoreView → Type 0
IsTurned v (Ok done) m w = Turns v m w
IsTurned v (Err fault) m w = IsRefused ((fault ≡ Busy) × (CanTurn v → ⊥)) v m w

-- ---- a call's reply is taken

-- the call runs, and its reply, which wasn't taken, is
pub record Takes (v : CoreView) (call : CallId) (part : Part) (m : Option Move) (w : CoreView) : Type 0 where
  pub reply : option_and_then (reply_of v.routes) ((world_of v.rows).calls call.0) ≡ Some (part_value part)
  pub view : w ≡ taken_view v call.0
  pub move : m ≡ Some (Taken call.0)
  pub does : Moved v w (Taken call.0)

-- the call runs, and has no reply, or it was taken
pub record Awaits (v : CoreView) (call : CallId) (m : Option Move) (w : CoreView) : Type 0 where
  pub runs : IsSome (v.rows.calls call.0)
  pub nothing : is_move v.routes (world_of v.rows) (Taken call.0) ≡ false
  pub none : m ≡ None
  pub same : w ≡ v

abbrev pub IsTaken : CoreView → CallId → Result (Option Part) CoreFault → Option Move → CoreView → Type 0
IsTaken v call (Ok (Some part)) m w = Takes v call part m w
IsTaken v call (Ok None) m w = Awaits v call m w
IsTaken v call (Err fault) m w = IsRefused ((fault ≡ NoSuchCall) × (v.rows.calls call.0 ≡ None)) v m w
