-- For how long a loop may wait for something to become ready (own).
use Rattle.std.specs.Prelude.{◌≡◌, ◌+◌, ℕ, Bool, Option, Some, None, min, if◌then◌else◌}
use Rattle.std.specs.Duration.{as_nanos}
use Rattle.std.specs.Time.{FitsClock, instant_nanos}
use Rattle.std.specs.declared.time.Duration.{Duration}
use Rattle.std.specs.declared.time.Instant.{Instant}
use Rattle.mcv_schedule.specs.Ending.{is_draining}
use Rattle.mcv_connection.specs.Elapsed.{nanos_between}
use Rattle.mcv_schedule.specs.declared.ending.Ending.{Ending}

-- a second, and a tenth of one while it drains, in nanoseconds
abbrev pub pause : Ending → ℕ
pause e = if is_draining e then 100_000_000 else 1_000_000_000

-- no longer than up to a moment, where it is known
abbrev pub up_to : (left : Option ℕ) → (most : ℕ) → ℕ
up_to None most = most
up_to (Some left) most = min most left

-- a leg that is sent then, or later, is late then, or later; where the clock can't say when none is late
abbrev pub IsLateAt : (oldest : Option Instant) → (limit : Option Duration) → (late : Option Instant) → Type 0
IsLateAt None limit late = late ≡ None
IsLateAt (Some o) None late = late ≡ None
IsLateAt (Some o) (Some l) None = ¬ FitsClock (instant_nanos o + as_nanos l)
IsLateAt (Some o) (Some l) (Some late) = instant_nanos late ≡ instant_nanos o + as_nanos l

-- nothing where something is to be done; else up to the nearest of these moments
abbrev pub patience : (is_busy : Bool) → (pause : ℕ) → (now late end : Option Instant) → ℕ
patience is_busy pause now late end = if is_busy then 0 else up_to (nanos_between now end) (up_to (nanos_between now late) pause)
