-- What is read of a core's legs (own).
use Rattle.std.specs.Prelude.{◌&&◌, ◌⊎◌, ℕ, Bool, true, false, List, Option, Some, None, IsSome, option_and_then, option_map}
use Rattle.std.specs.Arc.{arc_value}
use Rattle.mcv_base.specs.declared.operation.Mark.{Mark}
use Rattle.mcv_base.specs.declared.operation.Op.{Op}
use Rattle.mcv_base.specs.declared.request.Request.{Request}
use Rattle.mcv_base.specs.declared.request.ServerId.{ServerId}
use Rattle.mcv_queues.specs.Numbers.{IsLeast}
use Rattle.mcv_events.specs.Rows as rows
use Rattle.mcv_events.specs.Rows.{CallRow, LegRow, Rows, awaits}
use Rattle.mcv_core.specs.declared.dispatcher.Dispatcher.{Dispatcher}
use Rattle.mcv_core.specs.declared.errand.Errand.{Errand}
use Rattle.mcv_core.specs.Errands.{laid_request}
use Rattle.mcv_core.specs.View.{core_view}
use Rattle.mcv_core.specs.declared.readers.CallView.{CallView}
use Rattle.mcv_core.specs.declared.readers.LegView.{LegView}
use Rattle.mcv_core.specs.declared.step.LegState.{LegState}
use Rattle.mcv_core.specs.declared.step.LegState.TheVariants as leg_states

-- where a leg is that is queued or spooled
abbrev pub leg_state : rows.State → LegState
leg_state rows.Waiting = leg_states.Waiting
leg_state rows.Sent = leg_states.Sent
leg_state rows.Held = leg_states.Held
leg_state rows.InSpool = leg_states.Spooled
leg_state rows.InReplay = leg_states.Spooled

-- ---- which leg the spool is to take

abbrev pub is_held_in : rows.State → Bool
is_held_in rows.Waiting = false
is_held_in rows.Sent = false
is_held_in rows.Held = true
is_held_in rows.InSpool = false
is_held_in rows.InReplay = false

abbrev pub is_held : Option LegRow → Bool
is_held None = false
is_held (Some s) = is_held_in s.state

-- it is held, and its call runs and has no outcome of it
abbrev pub is_held_unheard : Rows → Option LegRow → Bool
is_held_unheard w None = false
is_held_unheard w (Some s) = is_held_in s.state && awaits w.calls s s.call

-- the first held leg of which its call has no outcome; where there is none, the first held leg
abbrev pub IsFirstHeld : Rows → Option ℕ → Type 0
IsFirstHeld w b = (IsSome b × IsLeast (λ n. is_held_unheard w (w.legs n)) b) ⊎ (IsLeast (λ n. is_held_unheard w (w.legs n)) None × IsLeast (λ n. is_held (w.legs n)) b)

-- ---- what a running call asks

-- its operation, the number of its route, and its key without the routing prefix
pub record Asked : Type 0 where
  pub op : Op
  pub route : ℕ
  pub rest : List ℕ

abbrev pub call_asked : CallView → Asked
call_asked v = record { op = v.op; route = v.route; rest = v.rest.now }

abbrev pub row_asked : CallRow → Asked
row_asked c = record { op = c.call.op; route = c.call.route; rest = c.call.rest }

-- ---- what a leg does

-- its call, server, operation, mark, rest and position
pub record LegSeen : Type 0 where
  pub call : Option ℕ
  pub server : ServerId
  pub op : Op
  pub mark : Mark
  pub rest : List ℕ
  pub position : List ℕ

abbrev pub seen : LegView → LegSeen
seen v = record { call = option_map (λ k. k.0) v.call; server = v.server; op = v.op; mark = v.mark; rest = v.rest.now; position = v.position.now }

abbrev pub seen_row : LegRow → LegSeen
seen_row s = record { call = s.call; server = s.launch.server; op = s.launch.op; mark = s.launch.mark; rest = s.rest; position = s.launch.position }

-- what the client asked whose call launched the leg
abbrev pub request_in : Errand → Option Request
request_in e = laid_request (arc_value e.laid)

abbrev pub request_of : Dispatcher → ℕ → Option Request
request_of d n = option_and_then (λ s. s.request) ((core_view d).rows.legs n)
