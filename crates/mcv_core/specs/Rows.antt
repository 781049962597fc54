-- The rows of the core's calls and legs in memory (own).
use Rattle.std.specs.Prelude.{◌≡◌, ◌<◌, ◌≤◌, ℕ, Bool, false, not, List, [], ◌∷◌, Option, Some, None, fold, length, filter, is_some, option_map, option_and_then, slice_get, vec_capacity}
use Rattle.std.specs.Arc.{arc_value}
use Rattle.mcv_base.specs.Reply.{ReplyValue, outcome_of, part_value}
use Rattle.mcv_core.specs.CallProgress.{GoesToServers, IsTracked, Past, count, launch_at}
use Rattle.mcv_queues.specs.declared.leg.Leg.{Leg}
use Rattle.mcv_queues.specs.declared.leg.State as queued
use Rattle.mcv_queues.specs.declared.leg.State.TheVariants as states
use Rattle.mcv_route.specs.declared.launch.Launch.{Launch}
use Rattle.mcv_route.specs.Outcomes.{outcomes}
use Rattle.mcv_route.specs.Routes.{RoutesValue}
use Rattle.mcv_world.specs.World as world
use Rattle.mcv_world.specs.World.{tree_of, situation_of, choice_of, history_of, reply_at}
use Rattle.mcv_events.specs.Entries.{is_launched}
use Rattle.mcv_events.specs.Rows as rows
use Rattle.mcv_events.specs.Rows.{State, LegRow, CallRow, Payload, Rows, payload_of}
use Rattle.mcv_core.specs.declared.call.Call.{Call}
use Rattle.mcv_core.specs.declared.call.Recorded.{Recorded}
use Rattle.mcv_core.specs.declared.errand.Errand.{Errand}
use Rattle.mcv_core.specs.Errands.{ErrandView, errand_view, laid_request, launch_of, rest_of}
use Rattle.mcv_core.specs.Launching.{errand_at, numbers_of, places_of}

-- ---- calls

abbrev pub entries_of : Call → List Launch
entries_of c = (arc_value c.laid).launches.items

abbrev pub recorded_one : List Launch → Recorded → world.Recorded
recorded_one es h = record { position = (launch_at es h.entry).position; reply = part_value h.outcome }

abbrev pub recorded_next : List Launch → List world.Recorded → Recorded → List world.Recorded
recorded_next es all h = recorded_one es h ∷ all

-- the newest first
abbrev pub recorded_all : List Launch → List Recorded → List world.Recorded
recorded_all es hs = fold (recorded_next es) [] hs

abbrev pub past_next : Past → Recorded → Past
past_next past h = (h.entry, outcome_of (part_value h.outcome)) ∷ past

abbrev pub past_of : List Recorded → Past
past_of hs = fold past_next [] hs

abbrev pub call_of : Call → world.Call
call_of c = record {
  op = c.op;
  route = c.route;
  rest = arc_value (arc_value c.laid).rest;
  since = option_map (λ m. m.0) c.since;
  choice = c.choice;
  recorded = recorded_all (entries_of c) c.recorded.items;
  taken = c.taken;
}

abbrev pub call_row : Call → CallRow
call_row c = record { call = call_of c; request = laid_request (arc_value c.laid); entries = entries_of c; legs = numbers_of c.entries.items }

-- what its legs take along
abbrev pub load_of : Call → Payload
load_of c = payload_of (call_row c)

-- ---- legs

-- a leg that the spool refused is held
abbrev pub state_of : queued.State → State
state_of states.Waiting = rows.Waiting
state_of states.Sent = rows.Sent
state_of states.Held = rows.Held
state_of states.Refused = rows.Held
state_of states.InSpool = rows.InSpool
state_of states.InReplay = rows.InReplay

-- a held leg of which its call has no outcome awaits it, as one that was sent does
abbrev pub awaiting_state : queued.State → State
awaiting_state states.Waiting = rows.Waiting
awaiting_state states.Sent = rows.Sent
awaiting_state states.Held = rows.Sent
awaiting_state states.Refused = rows.Held
awaiting_state states.InSpool = rows.InSpool
awaiting_state states.InReplay = rows.InReplay

-- a leg's row, by what its state is taken for
abbrev pub row_by : (queued.State → State) → Leg Errand → LegRow
row_by f l = record { call = l.content.call; entry = l.content.entry; launch = launch_of l.content; rest = rest_of l.content; request = laid_request (arc_value l.content.laid); state = f l.state }

abbrev pub rows_by : (queued.State → State) → (ℕ → Option (Leg Errand)) → ℕ → Option LegRow
rows_by f legs n = option_map (row_by f) (legs n)

abbrev pub leg_rows : (ℕ → Option (Leg Errand)) → ℕ → Option LegRow
leg_rows legs = rows_by state_of legs

abbrev pub call_rows : (ℕ → Option Call) → ℕ → Option CallRow
call_rows calls k = option_map call_row (calls k)

abbrev pub all_rows : (queued.State → State) → (ℕ → Option Call) → (ℕ → Option (Leg Errand)) → Option ℕ → ℕ → ℕ → Rows
all_rows f calls legs since next_call next_leg = record { calls = call_rows calls; legs = rows_by f legs; since = since; next_call = next_call; next_leg = next_leg }

abbrev pub rows_of : (ℕ → Option Call) → (ℕ → Option (Leg Errand)) → Option ℕ → ℕ → ℕ → Rows
rows_of = all_rows state_of

abbrev pub awaiting_rows : (ℕ → Option Call) → (ℕ → Option (Leg Errand)) → Option ℕ → ℕ → ℕ → Rows
awaiting_rows = all_rows awaiting_state

-- ---- what holds of a running call

abbrev pub has_outcome : world.Call → Launch → Bool
has_outcome call l = is_some (outcomes (history_of call.recorded) l.position)

-- the reply at a place of what is recorded, while it wasn't taken
abbrev pub taken_at : List Recorded → ℕ → Option ReplyValue
taken_at hs j = option_and_then (λ h. option_map part_value h.taken) (slice_get hs j)

abbrev pub errand_for : ℕ → Call → ℕ → ErrandView
errand_for k c e = record { call = Some k; laid = arc_value c.laid; entry = e }

-- the call of this number. That its entries are all legs that it can launch, and which of them have legs, is said of its row
pub record IsRunning (r : RoutesValue) (k : ℕ) (c : Call) : Type 0 where
  pub tracked : IsTracked (tree_of r c.route) (situation_of (call_of c)) (choice_of (call_of c)) (entries_of c) (past_of c.recorded.items) c.state
  pub counted : count c.state ≡ length (entries_of c)
  pub len : length c.entries.items ≡ length (entries_of c)
  -- an entry that isn't launched has ready what its leg takes with it
  pub ready : (e : ℕ) → e < length (entries_of c) → numbers_of c.entries.items e ≡ None → option_map errand_view (errand_at c.entries.items e) ≡ Some (errand_for k c e)
  -- an entry has a place exactly when it has an outcome, and its reply is there until the call's reply is taken
  pub placed : (e : ℕ) (l : Launch) → slice_get (entries_of c) e ≡ Some l → is_some (places_of c.entries.items e) ≡ has_outcome (call_of c) l
  pub replies : (e j : ℕ) → places_of c.entries.items e ≡ Some j → c.taken ≡ false → taken_at c.recorded.items j ≡ reply_at (call_of c).recorded (launch_at (entries_of c) e).position
  pub within : (e j : ℕ) → places_of c.entries.items e ≡ Some j → j < length c.recorded.items
  pub left : c.left ≡ length (filter (λ l. not (is_launched r (call_of c) l)) (entries_of c))
  pub recorded : length c.recorded.items ≡ length (filter (has_outcome (call_of c)) (entries_of c))
  pub room : length (entries_of c) ≤ vec_capacity c.recorded
  pub known : GoesToServers (length r.servers) (tree_of r c.route) (situation_of (call_of c)) (choice_of (call_of c))
