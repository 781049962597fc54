-- How often requests have waited for the next chapter of a hub in vain (own).
use Rattle.std.specs.Prelude.{◌||◌, ◌+◌, Bool, false, if◌then◌else◌, min, nat_eq, nat_le}
use Rattle.mcv_schedule.specs.declared.vain_waits.VainWaits.{VainWaits}
use Rattle.mcv_watch.specs.declared.Load.{Load}

-- in the first chapter none have waited
abbrev pub never : VainWaits
never = record { chapter = 0; is_nearly_full = false; count = 0 }

-- requests have waited once more
abbrev pub noted : VainWaits → VainWaits
noted waits = record waits { count = min (waits.count + 1) 255 }

-- three quarters of the entries that a chapter may have, or 160 MiB of history
abbrev pub is_nearly_full : Load → Bool
is_nearly_full load = nat_le 750_000 load.entries || nat_le 167_772_160 load.bytes

-- the hub is as full as this; none have waited in a chapter that has just begun
abbrev pub seen : VainWaits → Load → VainWaits
seen waits load = record { chapter = load.chapter; is_nearly_full = is_nearly_full load; count = if nat_eq load.chapter waits.chapter then waits.count else 0 }

-- they wait once, and once more where the chapter is nearly full
abbrev pub are_enough : VainWaits → Bool
are_enough waits = nat_le (if waits.is_nearly_full then 2 else 1) waits.count
