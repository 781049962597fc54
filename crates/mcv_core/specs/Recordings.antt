-- A call that records a reply (own).
use Rattle.std.specs.Prelude.{◌≡◌, ◌<◌, ◌≤◌, ◌+◌, ◌-◌, ◌^◌, ◌&&◌, not, nat_eq, ℕ, Bool, [], ◌∷◌, ◌++◌, Some, None, Option, length, filter, vec_capacity}
use Rattle.mcv_base.specs.declared.reply.Part.{Part}
use Rattle.mcv_base.specs.Reply.{ReplyValue}
use Rattle.mcv_core.specs.CallProgress.{launch_at}
use Rattle.mcv_queues.specs.declared.leg.Leg.{Leg}
use Rattle.mcv_queues.specs.declared.leg.State.{State}
use Rattle.mcv_queues.specs.declared.leg.State.TheVariants.{Waiting}
use Rattle.mcv_route.specs.Routes.{RoutesValue}
use Rattle.mcv_world.specs.World.{put}
use Rattle.mcv_world.specs.LiveWorld.{has_ended}
use Rattle.mcv_world.specs.Moves.{with_reply}
use Rattle.mcv_events.specs.Entries.{is_due, is_launched}
use Rattle.mcv_events.specs.Rows as rows
use Rattle.mcv_events.specs.Rows.{CanRecord, IsCore, Rows, queued_rows, recorded_row}
use Rattle.mcv_core.specs.declared.call.Call.{Call}
use Rattle.mcv_core.specs.declared.call.Recording.{Recording}
use Rattle.mcv_core.specs.declared.errand.Errand.{Errand}
use Rattle.mcv_core.specs.Errands.{launch_of}
use Rattle.mcv_core.specs.Launching.{errand_at, numbers_of, places_of}
use Rattle.mcv_core.specs.Rows.{call_of, call_row, entries_of, load_of, rows_by, IsRunning}

-- its reply was taken, and it has recorded as many as are launched
abbrev pub has_ended_by : Call → Bool
has_ended_by c = c.taken && nat_eq (length c.recorded.items) (length c.entries.items - c.left)

pub record IsNoted (entry : ℕ) (outcome taken : Part) (old new : Call) : Type 0 where
  pub same : new ≡ record old { state = new.state; entries = new.entries; recorded = new.recorded }
  pub recorded : new.recorded.items ≡ old.recorded.items ++ record { entry = entry; outcome = outcome; taken = Some taken } ∷ []
  pub capacity : vec_capacity new.recorded ≡ vec_capacity old.recorded
  pub errands : (e : ℕ) → errand_at new.entries.items e ≡ errand_at old.entries.items e
  pub numbers : (e : ℕ) → numbers_of new.entries.items e ≡ numbers_of old.entries.items e
  pub places : (e : ℕ) → places_of new.entries.items e ≡ put (places_of old.entries.items) entry (Some (length old.recorded.items)) e
  pub len : length new.entries.items ≡ length old.entries.items

-- the entry of some core's running call is launched and has no outcome, and what is due then can be launched
pub record CanNote (c : Call) (entry : ℕ) (legs : ℕ → Option (Leg Errand)) (room servers next : ℕ) : Type 0 where
  pub routes : RoutesValue
  pub rows : Rows
  pub number : ℕ
  pub core : IsCore routes rows
  pub can : CanRecord routes rows number (call_row c) entry (launch_at (entries_of c) entry)
  pub running : IsRunning routes number c
  pub free : (n : ℕ) → next ≤ n → legs n ≡ None
  pub enough : length (filter (λ l. not (is_launched routes (call_of c) l)) (entries_of c)) ≤ room
  pub small : next + length (filter (λ l. not (is_launched routes (call_of c) l)) (entries_of c)) < 2 ^ 64
  pub known : length routes.servers ≤ servers

-- each leg waits at the server of its launch
abbrev pub AreAddressed : (ℕ → Option (Leg Errand)) → Type 0
AreAddressed legs = (n : ℕ) (l : Leg Errand) → legs n ≡ Some l → l.server ≡ (launch_of l.content).server

-- the call's row is what recording makes of it, and what is due waits
pub record HasRecorded (r : RoutesValue) (w : Rows) (k : ℕ) (c d : Call) (e : ℕ) (x : ReplyValue) (legs after : ℕ → Option (Leg Errand)) (result : Recording) : Type 0 where
  pub row : call_row d ≡ recorded_row r w (call_row c) (launch_at (entries_of c) e).position x
  pub rows : (f : State → rows.State) → f Waiting ≡ rows.Waiting
      → rows_by f after ≡ queued_rows (is_due r (call_of c) (with_reply (call_of c) (launch_at (entries_of c) e).position x)) k (load_of c) w.next_leg 0 (entries_of c) (rows_by f legs)
  pub running : IsRunning r k d
  pub launched : result.launched ≡ length (filter (is_due r (call_of c) (with_reply (call_of c) (launch_at (entries_of c) e).position x)) (entries_of c))
  pub left : result.left ≡ length (filter (λ l. not (is_launched r (call_of d) l)) (entries_of d))
  pub spent : result.launched + result.left ≡ c.left
  pub ended : result.ended ≡ has_ended r (call_of d)
  pub addressed : AreAddressed legs → AreAddressed after
