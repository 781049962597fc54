-- What holds of the calls and legs at every moment (own).
use Rattle.std.specs.Prelude.{◌≡◌, ◌<◌, ◌≤◌, ◌+◌, ◌^◌, ℕ, false, Option, Some, None, length}
use Rattle.mcv_queues.specs.declared.leg.Leg.{Leg}
use Rattle.mcv_route.specs.Eras.{breaks_of, since_at}
use Rattle.mcv_route.specs.Routes.{RoutesValue}
use Rattle.mcv_events.specs.Rows as rows
use Rattle.mcv_events.specs.Rows.{State, LegRow, CallRow, IsCore, awaits}
use Rattle.mcv_events.specs.QueuedLegs.{queued_legs}
use Rattle.mcv_events.specs.Reservations.{reserved as reserved_by}
use Rattle.mcv_events.specs.Sums.{sum_below}
use Rattle.mcv_core.specs.declared.call.Call.{Call}
use Rattle.mcv_core.specs.declared.errand.Errand.{Errand}
use Rattle.mcv_core.specs.Errands.{launch_of}
use Rattle.mcv_core.specs.Rows.{awaiting_rows, awaiting_state, call_rows, rows_by, rows_of, state_of, IsRunning}

abbrev pub one : Option CallRow → ℕ
one None = 0
one (Some c) = 1

abbrev pub spooled_in : State → ℕ
spooled_in rows.Waiting = 0
spooled_in rows.Sent = 0
spooled_in rows.Held = 0
spooled_in rows.InSpool = 1
spooled_in rows.InReplay = 1

abbrev pub spooled_one : Option LegRow → ℕ
spooled_one None = 0
spooled_one (Some s) = spooled_in s.state

pub record IsSound (r : RoutesValue) (calls : ℕ → Option Call) (legs : ℕ → Option (Leg Errand)) (since : Option ℕ) (moment next_call next_leg reserved queued spooled running room servers : ℕ) : Type 0 where
  pub core : IsCore r (rows_of calls legs since next_call next_leg)
  -- a held leg that the spool hasn't refused has a running call, and no outcome
  pub awaiting : IsCore r (awaiting_rows calls legs since next_call next_leg)
  -- and one that the spool refused has one, or its call has ended
  pub refused : (n : ℕ) (s : LegRow) → rows_by awaiting_state legs n ≡ Some s → s.state ≡ rows.Held → awaits (call_rows calls) s s.call ≡ false
  pub calls_run : (k : ℕ) (c : Call) → calls k ≡ Some c → IsRunning r k c
  pub addressed : (n : ℕ) (l : Leg Errand) → legs n ≡ Some l → l.server ≡ (launch_of l.content).server
  pub reserved_is : reserved ≡ reserved_by r (rows_of calls legs since next_call next_leg)
  pub queued_is : queued ≡ queued_legs (rows_of calls legs since next_call next_leg)
  pub spooled_is : spooled ≡ sum_below spooled_one (rows_by state_of legs) next_leg
  pub running_is : running ≡ sum_below one (call_rows calls) next_call
  pub room_is : reserved ≤ room
  pub limit : queued + reserved ≤ 65536
  pub numbers : next_leg + reserved < 2 ^ 64
  pub known : length r.servers ≤ servers
  pub era : since ≡ since_at (breaks_of r) moment
