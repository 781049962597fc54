-- How the spool stands to the records of a hub (own).
use Rattle.std.specs.Prelude.{◌≡◌, ◌+◌, Bool, true, false, Option, Some, None, nat_le}
use Rattle.std.specs.Time.{FitsClock, instant_nanos}
use Rattle.std.specs.declared.time.Instant.{Instant}
use Rattle.mcv_schedule.specs.declared.spool_state.SpoolState.{SpoolState}
use Rattle.mcv_schedule.specs.declared.spool_state.SpoolState.TheVariants.{Taking, Refusing, LastTry}

-- a second behind this moment, where the clock can say both
abbrev pub IsSecondBehind : (now until : Option Instant) → Type 0
IsSecondBehind None until = until ≡ None
IsSecondBehind (Some n) None = ¬ FitsClock (instant_nanos n + 1_000_000_000)
IsSecondBehind (Some n) (Some until) = instant_nanos until ≡ instant_nanos n + 1_000_000_000

-- it isn't asked for a second after it has refused a record
abbrev pub IsAnswered : (refused : Bool) → (now : Option Instant) → SpoolState → Type 0
IsAnswered false now s = s ≡ Taking
IsAnswered true now Taking = ⊥
IsAnswered true now (Refusing until) = IsSecondBehind now until
IsAnswered true now LastTry = ⊥

-- it may be asked: unless it is known that its time isn't over
abbrev pub may_ask : SpoolState → (now : Option Instant) → Bool
may_ask Taking now = true
may_ask LastTry now = true
may_ask (Refusing None) now = true
may_ask (Refusing (Some until)) None = true
may_ask (Refusing (Some until)) (Some n) = nat_le (instant_nanos until) (instant_nanos n)

-- it refused the last record
abbrev pub refuses : SpoolState → Bool
refuses Taking = false
refuses (Refusing until) = true
refuses LastTry = true

-- it refused the last record, and isn't asked at once again
abbrev pub has_refused : SpoolState → Bool
has_refused Taking = false
has_refused (Refusing until) = true
has_refused LastTry = false

abbrev pub asked_again : SpoolState → SpoolState
asked_again Taking = Taking
asked_again (Refusing until) = LastTry
asked_again LastTry = LastTry
