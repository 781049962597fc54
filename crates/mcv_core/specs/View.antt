-- What contracts see of the dispatcher (own).
use Rattle.std.specs.Prelude.{◌≡◌, ℕ, true, false, Option, Some, option_map}
use Rattle.std.specs.Arc.{arc_value}
use Rattle.mcv_base.specs.Reply.{ReplyValue}
use Rattle.mcv_queues.specs.Queues.{in_flight, legs}
use Rattle.mcv_queues.specs.Marks.{marks}
use Rattle.mcv_queues.specs.Legs.{is_flight}
use Rattle.mcv_queues.specs.declared.leg.Leg.{Leg}
use Rattle.mcv_world.specs.Moves.{has_no_outcome}
use Rattle.mcv_world.specs.World.{is_counted_delete}
use Rattle.mcv_events.specs.QueuedLegs.{count_in}
use Rattle.mcv_events.specs.Rows.{leg_of}
use Rattle.mcv_core.specs.Calls.{calls_at}
use Rattle.mcv_core.specs.CoreView.{CoreView}
use Rattle.mcv_core.specs.Facts.{records_in}
use Rattle.mcv_core.specs.Rows.{call_of, row_by, rows_of, state_of}
use Rattle.mcv_core.specs.Settling.{is_gone, settled_view}
use Rattle.mcv_core.specs.declared.call.Call.{Call}
use Rattle.mcv_core.specs.declared.errand.Errand.{Errand}
use Rattle.mcv_core.specs.declared.dispatcher.Dispatcher.{Dispatcher}
use Rattle.mcv_core.specs.declared.settle.Settling.{Settling}

abbrev pub since_of : Dispatcher → Option ℕ
since_of d = option_map (λ m. m.0) d.since

abbrev pub core_view : Dispatcher → CoreView
core_view d = record {
  routes = arc_value d.accepted;
  rows = rows_of (calls_at d.calls) (legs d.queues) (since_of d) d.next_call d.next_leg;
  records = records_in (legs d.queues);
  flights = in_flight d.queues;
  limit = d.limit;
  marks = marks d.marks;
  moment = d.moment.0;
  chapter = d.chapter;
  entries = d.entries;
}

-- of each leg the number of its record in the spool
abbrev pub records_of : Dispatcher → ℕ → Option ℕ
records_of d = records_in (legs d.queues)

-- the leg is there, and its call runs and has no outcome for it; it is in flight exactly where it is to be done with
pub record CanSettle (d : Dispatcher) (n : ℕ) (to : Settling) : Type 0 where
  pub leg : Leg Errand
  pub call : ℕ
  pub running : Call
  pub at : legs d.queues n ≡ Some leg
  pub own : leg.content.call ≡ Some call
  pub there : calls_at d.calls call ≡ Some running
  pub awaited : has_no_outcome (leg_of (row_by state_of leg)) (call_of running) ≡ true
  pub flies : is_flight leg.state ≡ is_gone to
  pub queued : count_in (state_of leg.state) ≡ 1
  pub counted : is_gone to ≡ false → is_counted_delete (leg_of (row_by state_of leg)) ≡ true

-- after a leg has left its state, and its call has recorded the reply
abbrev pub has_settled : Dispatcher → ℕ → Settling → ReplyValue → CoreView
has_settled d n to x = settled_view (core_view d) n to x
