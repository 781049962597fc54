-- Moments of a clock that can't always be read (own).
use Rattle.std.specs.Prelude.{Bool, false, Option, Some, None, nat_le, nat_lt, if◌then◌else◌}
use Rattle.std.specs.Time.{instant_nanos}
use Rattle.std.specs.declared.time.Instant.{Instant}

-- a moment has come
abbrev pub has_come : (moment now : Option Instant) → Bool
has_come None now = false
has_come (Some m) None = false
has_come (Some m) (Some n) = nat_le (instant_nanos m) (instant_nanos n)

abbrev pub nearer : Instant → Instant → Instant
nearer a b = if nat_lt (instant_nanos b) (instant_nanos a) then b else a

-- the earlier one of two moments, of which each may be missing
abbrev pub earlier : Option Instant → Option Instant → Option Instant
earlier None other = other
earlier (Some a) None = Some a
earlier (Some a) (Some b) = Some (nearer a b)
