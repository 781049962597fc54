-- A leg that its call awaits leaves its state, and the call records a reply of it (own).
use Rattle.std.specs.Prelude.{◌≡◌, ◌+◌, ℕ, Bool, true, false, Option, Some, None, cond, option_and_then, option_map, unwrap_or}
use Rattle.mcv_base.specs.Reply.{ReplyValue}
use Rattle.mcv_queues.specs.declared.leg.Leg.{Leg}
use Rattle.mcv_queues.specs.declared.leg.State.TheVariants as states
use Rattle.mcv_queues.specs.Legs.{in_state as put_state, stored_as}
use Rattle.mcv_world.specs.World.{put}
use Rattle.mcv_events.specs.Rows as rows
use Rattle.mcv_events.specs.Rows.{LegRow, leg_of, with_leg_row}
use Rattle.mcv_events.specs.Events.{in_state, recorded_rows_for}
use Rattle.mcv_core.specs.declared.call.Recording.{Recording}
use Rattle.mcv_core.specs.declared.counts.Counts.{Counts}
use Rattle.mcv_core.specs.declared.errand.Errand.{Errand}
use Rattle.mcv_core.specs.declared.settle.Owner.{Owner}
use Rattle.mcv_core.specs.declared.settle.Settling.{Settling}
use Rattle.mcv_core.specs.declared.settle.Settling.TheVariants as to
use Rattle.mcv_core.specs.CoreView.{CoreView}
use Rattle.mcv_core.specs.Flights.{one_less}

-- the call and the entry of a leg; both 0 where it has none
pub record IsOwner (leg : Option (Leg Errand)) (owner : Owner) : Type 0 where
  pub call : owner.call ≡ unwrap_or (option_and_then (λ l. l.content.call) leg) 0
  pub entry : owner.entry ≡ unwrap_or (option_map (λ l. l.content.entry) leg) 0

abbrev pub is_gone : Settling → Bool
is_gone to.Gone = true
is_gone (to.InSpool seq) = false
is_gone to.Refused = false

abbrev pub is_settling : Settling → ℕ
is_settling to.Gone = 1
is_settling (to.InSpool seq) = 1
is_settling to.Refused = 0

abbrev pub is_storing_leg : Settling → ℕ
is_storing_leg to.Gone = 0
is_storing_leg (to.InSpool seq) = 1
is_storing_leg to.Refused = 0

abbrev pub freed_by : Recording → ℕ
freed_by step = cond step.ended (step.launched + step.left) step.launched

-- the counts after that
pub record HasCounted (old : Counts) (to : Settling) (step : Recording) (new : Counts) : Type 0 where
  pub reserved : new.reserved + freed_by step ≡ old.reserved
  pub queued : new.queued + is_settling to ≡ old.queued + step.launched
  pub spooled : new.spooled ≡ old.spooled + is_storing_leg to
  pub running : new.running + cond step.ended 1 0 ≡ old.running

abbrev pub settled_to : Settling → Option (Leg Errand) → Option (Leg Errand)
settled_to to.Gone o = None
settled_to (to.InSpool seq) o = option_map (stored_as seq) o
settled_to to.Refused o = option_map (put_state states.Refused) o

-- the numbers of the legs' records in the spool then
abbrev pub records_to : Settling → ℕ → (ℕ → Option ℕ) → ℕ → Option ℕ
records_to to.Gone n records = put records n None
records_to (to.InSpool seq) n records = put records n (Some seq)
records_to to.Refused n records = records

abbrev pub row_to : Settling → LegRow → Option LegRow
row_to to.Gone s = None
row_to (to.InSpool seq) s = Some (in_state s rows.InSpool)
row_to to.Refused s = Some (in_state s rows.Held)

-- how many legs are in flight to each server then
abbrev pub flights_to : Settling → (ℕ → ℕ) → ℕ → ℕ → ℕ
flights_to to.Gone flights server = one_less flights server
flights_to (to.InSpool seq) flights server = flights
flights_to to.Refused flights server = flights

abbrev pub settled_row : CoreView → ℕ → Settling → ReplyValue → Option LegRow → CoreView
settled_row v n t x None = v
settled_row v n t x (Some s) = record v { rows = recorded_rows_for v.routes (with_leg_row v.rows n (row_to t s)) s x s.call; records = records_to t n v.records; flights = flights_to t v.flights s.launch.server.0 }

abbrev pub settled_view : CoreView → ℕ → Settling → ReplyValue → CoreView
settled_view v n t x = settled_row v n t x (v.rows.legs n)
