-- How much time has passed, by a clock that can't always be read (own).
use Rattle.std.specs.Prelude.{◌-◌, ℕ, Bool, false, Option, Some, None, nat_le}
use Rattle.std.specs.Duration.{as_nanos}
use Rattle.std.specs.Time.{instant_nanos}
use Rattle.std.specs.declared.time.Duration.{Duration}
use Rattle.std.specs.declared.time.Instant.{Instant}

-- how many nanoseconds it is from one moment to the other, if both are known; 0 where the other one comes first
abbrev pub nanos_between : (from to : Option Instant) → Option ℕ
nanos_between None to = None
nanos_between (Some a) None = None
nanos_between (Some a) (Some b) = Some (instant_nanos b - instant_nanos a)

-- so much time or more has passed since a moment. Where something isn't known none has
abbrev pub has_passed : (since now : Option Instant) → (limit : Option Duration) → Bool
has_passed None now limit = false
has_passed (Some s) None limit = false
has_passed (Some s) (Some n) None = false
has_passed (Some s) (Some n) (Some l) = nat_le (as_nanos l) (instant_nanos n - instant_nanos s)
