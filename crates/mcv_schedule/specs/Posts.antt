-- What a loop has gathered for a hub (own).
use Rattle.std.specs.Prelude.{◌≡◌, ◌-◌, ◌<◌, ◌≤◌, ◌||◌, ◌⊎◌, Bool, true, false, ℕ, List, [], Option, Some, None, is_some, nat_eq, nat_le, not, take, vec_len, if◌then◌else◌}
use Rattle.std.specs.Time.{instant_nanos}
use Rattle.std.specs.declared.time.Instant.{Instant}
use Rattle.mcv_base.specs.declared.request.Moment.{Moment}
use Rattle.mcv_hub.specs.declared.history.Past.{Past}
use Rattle.mcv_turn.specs.declared.came.Came.{Came}
use Rattle.mcv_turn.specs.declared.flight.Flight.{Flight}
use Rattle.mcv_schedule.specs.SpoolState.{may_ask}
use Rattle.mcv_schedule.specs.VainWaits.{are_enough, never, noted}
use Rattle.mcv_schedule.specs.declared.post.Post.{Post}
use Rattle.mcv_schedule.specs.declared.spool_state.SpoolState.TheVariants.{Taking}
use Rattle.mcv_schedule.specs.declared.vain_waits.VainWaits.{VainWaits}

-- no leg in flight has ended, no server has answered a probe, and the spool has answered to no record
abbrev pub HasNothing : Post → Type 0
HasNothing p = (p.arrivals.items ≡ []) × (p.answering.items ≡ []) × (p.stored ≡ None)

-- a hub of which nothing is known and that nothing came for
pub record IsNew (p : Post) : Type 0 where
  pub nothing : HasNothing p
  pub unsent : p.unsent.items ≡ []
  pub wants : (p.is_wanted ≡ false) × (p.replays ≡ false) × (p.counts ≡ false)
  pub spool : (p.spool ≡ Taking) × (p.is_writing ≡ false)
  pub waits : (p.waits_since ≡ None) × (p.vain_waits ≡ never)
  pub queued : (p.queued ≡ 0) × (p.past ≡ None)

-- a turn is wanted, legs are to be sent again, or something came
abbrev pub is_due : Post → Bool
is_due p = p.is_wanted || p.replays || is_some p.stored || not (nat_eq (vec_len p.arrivals) 0) || not (nat_eq (vec_len p.answering) 0)

-- a second or more has passed since this moment, where both are known
abbrev pub is_second_over : (since now : Option Instant) → Bool
is_second_over None now = false
is_second_over (Some s) None = false
is_second_over (Some s) (Some n) = nat_le 1_000_000_000 (instant_nanos n - instant_nanos s)

-- how often requests have waited in vain, those that have waited for a second now with them
abbrev pub waits_by : Post → (now : Option Instant) → VainWaits
waits_by p now = if is_second_over p.waits_since now then noted p.vain_waits else p.vain_waits

-- what is told in a turn: all that came. Nothing of it is left, and all else is as it was
pub record IsTaken (before : Post) (moment : Moment) (now : Option Instant) (came : Came) (after : Post) : Type 0 where
  pub moment_is : came.moment ≡ moment
  pub arrivals : came.arrivals ≡ before.arrivals
  pub answering : came.answering ≡ before.answering
  pub stored : came.stored ≡ before.stored
  pub asks : (came.replays ≡ before.replays) × (came.counts ≡ before.counts)
  pub may_store : came.may_store ≡ may_ask before.spool now
  pub waited : came.waited ≡ are_enough (waits_by before now)
  pub nothing : HasNothing after
  pub wants : (after.is_wanted ≡ false) × (after.replays ≡ false) × (after.counts ≡ false)
  pub waits : (after.waits_since ≡ before.waits_since) × (after.vain_waits ≡ waits_by before now)
  pub keeps : (after.unsent ≡ before.unsent) × (after.spool ≡ before.spool) × (after.is_writing ≡ before.is_writing) × (after.queued ≡ before.queued) × (after.past ≡ before.past)

-- since when requests wait to begin
abbrev pub waiting_since : (waits : Bool) → (before now : Option Instant) → Option Instant
waiting_since false before now = None
waiting_since true None now = now
waiting_since true (Some since) now = Some since

-- up to 4,096 entries, the last ones, are dropped; whether some are left is told
abbrev pub IsShortened : (before : Option Past) → (left : Bool) → (after : Option Past) → Type 0
IsShortened None left after = (left ≡ false) × (after ≡ None)
IsShortened (Some p) left None = (left ≡ false) × (vec_len p.entries ≤ 4_096)
IsShortened (Some p) left (Some q) = (left ≡ true) × (4_096 < vec_len p.entries) × (q.entries.items ≡ take (vec_len p.entries - 4_096) p.entries.items)

-- all legs that weren't sent are given, in their order, and none is left; or none is given, and all are left
abbrev pub GivesUnsent : (before given left : List Flight) → Type 0
GivesUnsent before given left = ((given ≡ before) × (left ≡ [])) ⊎ ((given ≡ []) × (left ≡ before))
