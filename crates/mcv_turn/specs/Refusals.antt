-- Calls that a hub refused for want of a place (own).
use Rattle.std.specs.Prelude.{◌+◌, ◌-◌, ◌<◌, ◌^◌, ℕ, Option, None, Some, min}
use Rattle.mcv_core.specs.CoreView.{CoreView}
use Rattle.mcv_core.specs.declared.fault.CoreFault.{CoreFault}
use Rattle.mcv_core.specs.declared.fault.CoreFault.TheVariants.{UnknownPrefix, BadKey, LegsFull, ChapterFull, NothingWaiting, NoSuchLeg, Busy, ClockBack, Memory, NoSuchCall}
use Rattle.mcv_text.specs.Request.{RequestValue}
use Rattle.mcv_turn.specs.Answers.{WasRefused}
use Rattle.mcv_turn.specs.declared.refusals.Refused.{Refused}

-- in a state of the hub a call for some key was refused for this cause
pub record WasCallRefused (opened : CoreView) (fault : CoreFault) : Type 0 where
  pub request : RequestValue
  pub key : ℕ
  pub was : WasRefused opened request key fault

-- if any are counted, one was refused so
pub record WereRefused (opened : CoreView) (counts : Refused) : Type 0 where
  pub legs : 0 < counts.legs → WasCallRefused opened LegsFull
  pub chapter : 0 < counts.chapter → WasCallRefused opened ChapterFull

-- one more, as a `u64`
abbrev pub one_more : ℕ → ℕ
one_more count = min (count + 1) (2 ^ 64 - 1)

-- with a call that was refused so
abbrev pub with_fault : Refused → CoreFault → Refused
with_fault counts LegsFull = record counts { legs = one_more counts.legs }
with_fault counts ChapterFull = record counts { chapter = one_more counts.chapter }
with_fault counts UnknownPrefix = counts
with_fault counts BadKey = counts
with_fault counts NothingWaiting = counts
with_fault counts NoSuchLeg = counts
with_fault counts Busy = counts
with_fault counts ClockBack = counts
with_fault counts Memory = counts
with_fault counts NoSuchCall = counts

-- with one, if one was
abbrev pub with_refusal : Refused → Option CoreFault → Refused
with_refusal counts None = counts
with_refusal counts (Some fault) = with_fault counts fault
