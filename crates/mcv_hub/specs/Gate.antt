-- When the next chapter is due, and how calls begin meanwhile (own).
use Rattle.std.specs.Prelude.{◌≡◌, ◌*◌, ◌-◌, ◌<◌, ◌≤◌, ◌⊎◌, ◌&&◌, ◌||◌, ℕ, Bool, true, false, [], Result, Ok, Err, nat_le, nat_lt}
use Rattle.mcv_base.specs.declared.request.CallId.{CallId}
use Rattle.mcv_base.specs.declared.request.Request.{Request}
use Rattle.mcv_pools.specs.Hash.{fnv_index}
use Rattle.mcv_core.specs.Asking.{IsUnbegun}
use Rattle.mcv_core.specs.Events.{IsBegun}
use Rattle.mcv_core.specs.View.{core_view}
use Rattle.mcv_core.specs.declared.fault.CoreFault.{CoreFault}
use Rattle.mcv_core.specs.declared.fault.CoreFault.TheVariants.{Busy, ChapterFull}
use Rattle.mcv_hub.specs.Events.{BeginsChapter, IsBusyChapter, IsHubEvent}
use Rattle.mcv_hub.specs.State.{HubView, IsSame}
use Rattle.mcv_hub.specs.Weights.{bytes_of}
use Rattle.mcv_hub.specs.declared.gate.Gate.{Gate}
use Rattle.mcv_hub.specs.declared.gate.Gate.TheVariants as gates
use Rattle.mcv_hub.specs.declared.history.Past.{Past}

-- ---- the limits of a chapter

-- the entries that its calls may write
abbrev pub most_entries : ℕ
most_entries = 1000000

-- the bytes of its history: 64 MiB from which on the next chapter is due, and 256 MiB beyond which no call begins
abbrev pub due_bytes : ℕ
due_bytes = 67108864

abbrev pub most_bytes : ℕ
most_bytes = 268435456

-- ---- when the next chapter is due

-- entries came to those with which it opened, and they are half or more of what there was room for then
abbrev pub is_half_full : (before entries : ℕ) → Bool
is_half_full before entries = nat_lt before entries && nat_le (most_entries - before) (2 * (entries - before))

abbrev pub is_chapter_due : HubView → Bool
is_chapter_due v = is_half_full v.entries_before (core_view v.core).entries || nat_le due_bytes (bytes_of v.history)

-- ---- calls begin

-- where the history holds too many bytes no call begins, whatever its key is; else it is the core's event
pub record IsHubBegun (old : HubView) (request : Request) (key : ℕ) (result : Result CallId CoreFault) (new : HubView) : Type 0 where
  pub heavy : most_bytes < bytes_of old.history → (result ≡ Err ChapterFull) × IsSame old new
  pub event : bytes_of old.history ≤ most_bytes → IsHubEvent (IsBegun (core_view old.core) fnv_index request key result) old new

-- why no call begins for the key: the history holds too many bytes, or the core refuses it for this
abbrev pub IsHubUnbegun : HubView → Request → ℕ → CoreFault → Type 0
IsHubUnbegun v request key fault = ((most_bytes < bytes_of v.history) × (fault ≡ ChapterFull)) ⊎ IsUnbegun (core_view v.core) fnv_index request key fault

-- ---- chapters

-- what is given out of the old chapter: all its entries, or, where there was no memory for that, none
abbrev pub IsPast : HubView → Past → Type 0
IsPast old past = (past.entries.items ≡ old.history) ⊎ (past.entries.items ≡ [])

abbrev pub IsHubTurn : HubView → Result Past CoreFault → HubView → Type 0
IsHubTurn old (Ok past) new = BeginsChapter old new × IsPast old past
IsHubTurn old (Err fault) new = IsBusyChapter old new fault

-- how a call that wants to begin finds the chapter: no other one is due; it was, and has begun; or it is, and can't begin yet
abbrev pub IsGate : HubView → Gate → HubView → Type 0
IsGate old gates.Open new = (is_chapter_due old ≡ false) × IsSame old new
IsGate old (gates.Turned past) new = (is_chapter_due old ≡ true) × BeginsChapter old new × IsPast old past
IsGate old gates.Closed new = (is_chapter_due old ≡ true) × IsBusyChapter old new Busy

abbrev pub is_closed : Gate → Bool
is_closed gates.Open = false
is_closed (gates.Turned past) = false
is_closed gates.Closed = true
