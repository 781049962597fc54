-- A call begins (own).
use Rattle.std.specs.Arc.{arc_value}
use Rattle.std.specs.Prelude.{◌≡◌, ◌<◌, ◌≤◌, ◌+◌, ◌*◌, ◌^◌, ℕ, false, List, [], Option, Some, None, ⊤, length, option_map, slice_get, slice_index, vec_capacity}
use Rattle.mcv_base.specs.declared.request.Moment.{Moment}
use Rattle.mcv_base.specs.declared.request.Request.{Request}
use Rattle.mcv_plan.specs.declared.state.EvalState.{EvalState}
use Rattle.mcv_queues.specs.Queues.{room as leg_room}
use Rattle.mcv_route.specs.declared.launch.Launch.{Launch}
use Rattle.mcv_route.specs.Outcomes.{IsChoice}
use Rattle.mcv_route.specs.Routes.{RouteEntry}
use Rattle.mcv_route.specs.Situation.{asked}
use Rattle.mcv_symbolic.specs.CoveredRoutes.{sizes_of}
use Rattle.mcv_world.specs.Moves.{Began, Move, new_call}
use Rattle.mcv_world.specs.PossibleMoves.{CanBegin}
use Rattle.mcv_world.specs.World as world
use Rattle.mcv_world.specs.World.{choice_of, situation_of, tree_of}
use Rattle.mcv_events.specs.Events.{began_rows}
use Rattle.mcv_events.specs.QueuedLegs.{queued_legs}
use Rattle.mcv_events.specs.Reservations.{reserved}
use Rattle.mcv_events.specs.Rows.{world_of}
use Rattle.mcv_core.specs.Calls.{room as call_room}
use Rattle.mcv_core.specs.CoreView.{CoreView}
use Rattle.mcv_core.specs.Rows.{call_of, entries_of}
use Rattle.mcv_core.specs.CallProgress.{GoesToServers, HasOpened}
use Rattle.mcv_core.specs.Errands.{laid_request}
use Rattle.mcv_core.specs.PlannedLegs.{legs_of_call}
use Rattle.mcv_core.specs.declared.begin.Asked.{Asked}
use Rattle.mcv_core.specs.declared.call.Call.{Call}
use Rattle.mcv_core.specs.declared.dispatcher.Dispatcher.{Dispatcher}
use Rattle.mcv_core.specs.declared.errand.Errand.{Errand}
use Rattle.mcv_core.specs.declared.errand.Laid.{Laid}
use Rattle.mcv_core.specs.declared.fault.CoreFault.{CoreFault}
use Rattle.mcv_core.specs.declared.fault.CoreFault.TheVariants.{UnknownPrefix, BadKey, LegsFull, ChapterFull, NothingWaiting, NoSuchLeg, Busy, ClockBack, Memory, NoSuchCall}
use Rattle.mcv_core.specs.declared.launch.Entry.{Entry}

-- so many legs more fit: at most 65,536 are queued or reserved, and numbers are below 2^64
pub record LegsFit (v : CoreView) (count : ℕ) : Type 0 where
  pub limit : queued_legs v.rows + reserved v.routes v.rows + count ≤ 65536
  pub calls : v.rows.next_call < 2 ^ 64
  pub legs : v.rows.next_leg + reserved v.routes v.rows + count < 2 ^ 64

-- how many entries of the history a call may write that can launch so many legs: two of its own, and three for each leg
abbrev pub entries_for : ℕ → ℕ
entries_for count = 2 + 3 * count

-- the chapter's history has room for them
abbrev pub HistoryFits : CoreView → ℕ → Type 0
HistoryFits v count = v.entries + entries_for count ≤ 1000000

-- how many legs a call can launch, and so reserves
abbrev pub reservation : CoreView → world.Call → ℕ
reservation v call = length (legs_of_call v.routes call)

-- the call is added with all legs that it can launch, and what it launches at once waits; its legs take the request along
abbrev pub begun : CoreView → world.Call → Option Request → CoreView
begun v call request = record v { rows = began_rows v.routes v.rows call request (legs_of_call v.routes call); entries = v.entries + entries_for (reservation v call) }

-- the call fits, and begins
pub record HasBegun (v w : CoreView) (call : world.Call) (request : Option Request) : Type 0 where
  pub legs_fit : LegsFit v (reservation v call)
  pub history_fits : HistoryFits v (reservation v call)
  pub view : w ≡ begun v call request

-- why it doesn't: the legs are looked at before the history. Memory may run out at any time
abbrev pub IsFull : CoreView → world.Call → CoreFault → Type 0
IsFull v call UnknownPrefix = ⊥
IsFull v call BadKey = ⊥
IsFull v call LegsFull = LegsFit v (reservation v call) → ⊥
IsFull v call ChapterFull = LegsFit v (reservation v call) × (HistoryFits v (reservation v call) → ⊥)
IsFull v call NothingWaiting = ⊥
IsFull v call NoSuchLeg = ⊥
IsFull v call Busy = ⊥
IsFull v call ClockBack = ⊥
IsFull v call Memory = ⊤
IsFull v call NoSuchCall = ⊥

-- ---- what is asked for in memory

-- the call that it asks for, in the era of the view
abbrev pub asked_call : CoreView → Asked → world.Call
asked_call v asks = new_call (world_of v.rows) asks.op asks.route (arc_value asks.rest) asks.choice

abbrev pub began_for : Asked → Move
began_for asks = Began asks.op asks.route (arc_value asks.rest) asks.choice

-- why it doesn't begin
abbrev pub IsUnstarted : CoreView → Asked → CoreFault → Type 0
IsUnstarted v asks UnknownPrefix = slice_get v.routes.entries asks.route ≡ None
IsUnstarted v asks BadKey = ⊥
IsUnstarted v asks LegsFull = IsFull v (asked_call v asks) LegsFull
IsUnstarted v asks ChapterFull = IsFull v (asked_call v asks) ChapterFull
IsUnstarted v asks NothingWaiting = ⊥
IsUnstarted v asks NoSuchLeg = ⊥
IsUnstarted v asks Busy = ⊥
IsUnstarted v asks ClockBack = ⊥
IsUnstarted v asks Memory = ⊤
IsUnstarted v asks NoSuchCall = ⊥

-- the errand of the entry: it shares the call's entries
abbrev pub IsErrandOf : Laid → ℕ → ℕ → Option Errand → Type 0
IsErrandOf laid k e None = ⊥
IsErrandOf laid k e (Some errand) = (errand.call ≡ Some k) × (errand.entry ≡ e) × (arc_value errand.laid ≡ laid)

-- each entry has ready what its leg takes with it, and nothing else
pub record AreReadied (laid : Laid) (k : ℕ) (entries : List Entry) : Type 0 where
  pub len : length entries ≡ length laid.launches.items
  pub each : (e : ℕ) (x : Entry) → slice_get entries e ≡ Some x → (x.leg ≡ None) × (x.place ≡ None) × IsErrandOf laid k e x.errand

-- nothing is launched or recorded yet, and there is room for what it records
pub record IsUnlaunched (number : ℕ) (c : Call) : Type 0 where
  pub readied : AreReadied (arc_value c.laid) number c.entries.items
  pub recorded : c.recorded.items ≡ []
  pub room : length (entries_of c) ≤ vec_capacity c.recorded
  pub left : c.left ≡ length (entries_of c)
  pub taken : c.taken ≡ false

pub record IsNewCall (number : ℕ) (since : Option Moment) (asked : Asked) (state : EvalState) (launches : List Launch) (c : Call) : Type 0 where
  pub op : c.op ≡ asked.op
  pub route : c.route ≡ asked.route
  pub since_is : c.since ≡ since
  pub choice : c.choice ≡ asked.choice
  pub rest : arc_value (arc_value c.laid).rest ≡ arc_value asked.rest
  pub request : laid_request (arc_value c.laid) ≡ Some (arc_value asked.request)
  pub state_is : c.state ≡ state
  pub entries : entries_of c ≡ launches
  pub unlaunched : IsUnlaunched number c

-- what the code counts says that so many legs more fit
pub record HasLegRoom (d : Dispatcher) (count : ℕ) : Type 0 where
  pub legs : d.counts.queued + d.counts.reserved + count ≤ 65536
  pub call_numbers : d.next_call < 2 ^ 64
  pub leg_numbers : d.next_leg + d.counts.reserved + count < 2 ^ 64

-- and so many entries of the history
pub record HasRoom (d : Dispatcher) (count : ℕ) : Type 0 where
  pub legs : HasLegRoom d count
  pub entries : d.entries + entries_for count ≤ 1000000

abbrev pub began_by : Call → Move
began_by c = Began c.op c.route (call_of c).rest c.choice

-- the call is a new one of the dispatcher's era, and fits
pub record CanAdd (d : Dispatcher) (c : Call) : Type 0 where
  pub begins : CanBegin (arc_value d.accepted) c.route (call_of c).rest c.choice
  pub since_is : c.since ≡ d.since
  pub opened : HasOpened (tree_of (arc_value d.accepted) c.route) (situation_of (call_of c)) (choice_of (call_of c)) (entries_of c) c.state
  pub goes : GoesToServers (length (arc_value d.accepted).servers) (tree_of (arc_value d.accepted) c.route) (situation_of (call_of c)) (choice_of (call_of c))
  pub unlaunched : IsUnlaunched d.next_call c
  pub has_room : HasRoom d c.left
  pub calls_fit : 0 < call_room d.calls
  pub legs_fit : d.counts.reserved + c.left ≤ leg_room d.queues

abbrev pub has_begun : CoreView → Call → CoreView
has_begun v c = record v { rows = began_rows v.routes v.rows (new_call (world_of v.rows) c.op c.route (call_of c).rest c.choice) (laid_request (arc_value c.laid)) (entries_of c); entries = v.entries + entries_for (length (entries_of c)) }

-- the call's entries are laid out, and fit
pub record CanStart (d : Dispatcher) (asks : Asked) (state : EvalState) (launches : List Launch) : Type 0 where
  pub entry : RouteEntry
  pub there : slice_get (arc_value d.accepted).entries asks.route ≡ Some entry
  pub choice : IsChoice (sizes_of (arc_value d.accepted)) (slice_index asks.choice)
  pub opened : HasOpened entry.tree (asked asks.op (arc_value asks.rest) (option_map (λ m. m.0) d.since)) (slice_index asks.choice) launches state
  pub fits : HasRoom d (length launches)
