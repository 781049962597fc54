-- How a loop ends in order (own).
use Rattle.std.specs.Prelude.{◌&&◌, Bool, true, false, Option, Some, None, ℕ, nat_eq, if◌then◌else◌}
use Rattle.std.specs.declared.time.Duration.{Duration}
use Rattle.std.specs.declared.time.Instant.{Instant}
use Rattle.mcv_connection.specs.Elapsed.{has_passed}
use Rattle.mcv_schedule.specs.Moments.{earlier, has_come}
use Rattle.mcv_schedule.specs.declared.ending.Ending.{Ending}
use Rattle.mcv_schedule.specs.declared.ending.Ending.TheVariants.{Serving, Closed, Draining}

-- no more clients come: a drain goes on
abbrev pub closed : Ending → Ending
closed Serving = Closed
closed Closed = Closed
closed (Draining until) = Draining until

-- a drain up to this moment was asked for: of two the earlier one holds
abbrev pub drained : Ending → Option Instant → Ending
drained Serving until = Draining until
drained Closed until = Draining until
drained (Draining before) until = Draining (earlier before until)

-- no more clients come
abbrev pub is_asked : Ending → Bool
is_asked Serving = false
is_asked Closed = true
is_asked (Draining until) = true

abbrev pub is_draining : Ending → Bool
is_draining Serving = false
is_draining Closed = false
is_draining (Draining until) = true

-- the moment of a drain has come: nothing is sent to servers any more
abbrev pub is_past : Ending → (now : Option Instant) → Bool
is_past Serving now = false
is_past Closed now = false
is_past (Draining until) now = has_come until now

-- so much time or more has passed since then
abbrev pub is_past_by : Ending → (now : Option Instant) → Duration → Bool
is_past_by Serving now limit = false
is_past_by Closed now limit = false
is_past_by (Draining until) now limit = has_passed until now (Some limit)

-- the moment that is still to come at which the loop has something to do for its end
abbrev pub next_moment : Ending → (now : Option Instant) → Option Instant
next_moment Serving now = None
next_moment Closed now = None
next_moment (Draining until) now = if has_come until now then None else until

-- no more clients come, and none is left
abbrev pub is_without_clients : Ending → (clients : ℕ) → Bool
is_without_clients e clients = is_asked e && nat_eq clients 0
