-- Events one after the other: what is answered to each, and which move of the world it is (own).
use Rattle.std.specs.Prelude.{◌≡◌, ℕ, List, [], ◌∷◌, ◌++◌, Option, None, Some, Result}
use Rattle.std.specs.Arc.{arc_value}
use Rattle.std.specs.declared.alloc.Global.{Global}
use Rattle.std.specs.declared.sync.Arc.{Arc}
use Rattle.mcv_base.specs.declared.reply.Part.{Part}
use Rattle.mcv_base.specs.declared.request.CallId.{CallId}
use Rattle.mcv_base.specs.declared.request.LegId.{LegId}
use Rattle.mcv_base.specs.declared.request.Moment.{Moment}
use Rattle.mcv_base.specs.declared.request.Request.{Request}
use Rattle.mcv_base.specs.declared.request.ServerId.{ServerId}
use Rattle.mcv_base.specs.Reply.{ReplyValue}
use Rattle.mcv_pools.specs.Symbol.{SymbolValue}
use Rattle.mcv_spool.specs.declared.record.Stored.{Stored}
use Rattle.mcv_world.specs.KeptLegs.{Kept}
use Rattle.mcv_world.specs.LiveWorld.{live_of}
use Rattle.mcv_world.specs.Moves.{Move, run}
use Rattle.mcv_events.specs.Rows.{world_of}
use Rattle.mcv_core.specs.AcknowledgedCalls.{AnsweredCallsAreKept}
use Rattle.mcv_core.specs.Answers.{call_answer, done_answer, leg_answer, reply_answer, state_answer}
use Rattle.mcv_core.specs.CoreView.{CoreView}
use Rattle.mcv_core.specs.Events.{IsAnsweredLeg, IsBegun, IsClocked, IsLostLeg, IsLostTooLeg, IsMarked, IsNext, IsRefusedLeg, IsReplay, IsSpooledLeg, IsTaken, IsTurned, IsUnmarked}
use Rattle.mcv_core.specs.KeptDeletes.{DeletesStayKept}
use Rattle.mcv_core.specs.declared.fault.CoreFault.{CoreFault}
use Rattle.mcv_core.specs.declared.run.Answer.{Answer}
use Rattle.mcv_core.specs.declared.run.Answer.TheVariants as answer
use Rattle.mcv_core.specs.declared.run.Event.{Event}
use Rattle.mcv_core.specs.declared.run.Event.TheVariants as event
use Rattle.mcv_core.specs.declared.step.Step.{Step as Done}
use Rattle.mcv_core.specs.declared.turn.Era.{Era}

-- what comes in, what is answered, the move that the event is, or none, and the view after: one case for each event
pub data Step (chosen : SymbolValue → List ℕ → ℕ) (v : CoreView) : Event → Answer → Option Move → CoreView → Type 0 where
  begun : (request : Arc Request Global) (key : ℕ) (r : Result CallId CoreFault) (m : Option Move) (w : CoreView) → IsBegun v chosen (arc_value request) key r m w → Step chosen v (event.Begin request key) (call_answer r) m w
  sent : (server : ServerId) (r : Result LegId CoreFault) (m : Option Move) (w : CoreView) → IsNext v server r m w → Step chosen v (event.Next server) (leg_answer r) m w
  replayed : (server : ServerId) (r : Result LegId CoreFault) (m : Option Move) (w : CoreView) → IsReplay v server r m w → Step chosen v (event.Replay server) (leg_answer r) m w
  answered : (leg : LegId) (reply : ReplyValue) (r : Result Done CoreFault) (m : Option Move) (w : CoreView) → IsAnsweredLeg v leg reply r m w → Step chosen v (event.Answered leg reply) (state_answer r) m w
  lost : (leg : LegId) (r : Result Done CoreFault) (m : Option Move) (w : CoreView) → IsLostLeg v leg r m w → Step chosen v (event.Lost leg) (state_answer r) m w
  lost_too : (leg : LegId) (r : Result Done CoreFault) (m : Option Move) (w : CoreView) → IsLostTooLeg v leg r m w → Step chosen v (event.LostToo leg) (state_answer r) m w
  spooled : (leg : LegId) (stored : Stored) (r : Result Done CoreFault) (m : Option Move) (w : CoreView) → IsSpooledLeg v leg stored r m w → Step chosen v (event.Spooled leg stored) (state_answer r) m w
  refused : (leg : LegId) (r : Result Done CoreFault) (m : Option Move) (w : CoreView) → IsRefusedLeg v leg r m w → Step chosen v (event.SpoolRefused leg) (state_answer r) m w
  marked : (server : ServerId) (m : Option Move) (w : CoreView) → IsMarked v server m w → Step chosen v (event.Mark server) answer.Done m w
  unmarked : (server : ServerId) (m : Option Move) (w : CoreView) → IsUnmarked v server m w → Step chosen v (event.Unmark server) answer.Done m w
  clocked : (moment : Moment) (r : Result (Option Era) CoreFault) (m : Option Move) (w : CoreView) → IsClocked v moment r m w → Step chosen v (event.Clock moment) (done_answer r) m w
  turned : (r : Result (Unit {0}) CoreFault) (m : Option Move) (w : CoreView) → IsTurned v r m w → Step chosen v event.Turn (done_answer r) m w
  taken : (call : CallId) (r : Result (Option Part) CoreFault) (m : Option Move) (w : CoreView) → IsTaken v call r m w → Step chosen v (event.Take call) (reply_answer r) m w

abbrev pub with_move : List Move → Option Move → List Move
with_move ms None = ms
with_move ms (Some m) = ms ++ m ∷ []

-- a list of events, the answers to them, and the moves that they are
pub data Steps (chosen : SymbolValue → List ℕ → ℕ) (start : CoreView) : List Event → List Answer → List Move → CoreView → Type 0 where
  none : Steps chosen start [] [] [] start
  more : (events : List Event) (answers : List Answer) (ms : List Move) (v : CoreView) (e : Event) (a : Answer) (m : Option Move) (w : CoreView) → Steps chosen start events answers ms v → Step chosen v e a m w
      → Steps chosen start (events ++ e ∷ []) (answers ++ a ∷ []) (with_move ms m) w

-- the event is answered so and leads to this view
pub record IsAnswered (chosen : SymbolValue → List ℕ → ℕ) (v : CoreView) (e : Event) (a : Answer) (w : CoreView) : Type 0 where
  pub move : Option Move
  pub step : Step chosen v e a move w
  pub keeps : DeletesStayKept v w move

-- the events are answered so, one after the other, and lead to this view
pub record AreAnswered (chosen : SymbolValue → List ℕ → ℕ) (start : CoreView) (events : List Event) (answers : List Answer) (w : CoreView) : Type 0 where
  pub moves : List Move
  pub steps : Steps chosen start events answers moves w

-- ---- deletes are kept

-- and deletes are kept in the world that their moves lead to, the answered ones among them, and of which the core keeps what is left
pub record DeletesAreKept (chosen : SymbolValue → List ℕ → ℕ) (start : CoreView) (events : List Event) (answers : List Answer) (w : CoreView) : Type 0 where
  pub moves : List Move
  pub steps : Steps chosen start events answers moves w
  pub kept : Kept start.routes (run start.routes (world_of start.rows) moves)
  pub acknowledged : AnsweredCallsAreKept start.routes chosen events answers (run start.routes (world_of start.rows) moves)
  pub live : live_of start.routes (run start.routes (world_of start.rows) moves) ≡ world_of w.rows
