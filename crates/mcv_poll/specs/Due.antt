-- When something may be done again (own).
use Rattle.std.specs.Prelude.{Bool, true, Option, Some, None, ◌-◌, nat_le, nat_lt, if◌then◌else◌}
use Rattle.std.specs.Duration.{as_nanos}
use Rattle.std.specs.Time.{instant_nanos}
use Rattle.std.specs.declared.time.Instant.{Instant}
use Rattle.std.specs.declared.time.Duration.{Duration}

-- it was done at the first moment, if it was, and so long has passed since at the second; where a moment isn't known it may
abbrev pub is_due : Option Instant → Option Instant → Duration → Bool
is_due None now respite = true
is_due (Some last) None respite = true
is_due (Some last) (Some now) respite = nat_le (as_nanos respite) (instant_nanos now - instant_nanos last)

-- the shorter one of two times, of which each may have no limit
abbrev pub shorter : Option Duration → Option Duration → Option Duration
shorter None other = other
shorter (Some a) None = Some a
shorter (Some a) (Some b) = if nat_lt (as_nanos b) (as_nanos a) then Some b else Some a
