-- What a hub has left, and when a loop whose clients have gone is over (own).
use Rattle.std.specs.Prelude.{◌+◌, ◌&&◌, ◌||◌, ℕ, Bool, List, [], ◌∷◌, Option, Some, None, min, nat_eq, not, if◌then◌else◌}
use Rattle.mcv_schedule.specs.declared.leftover.Leftover.{Leftover}

-- nothing is to be told to it and no record is being written; and none of its legs is queued, or none is on its way to a server and the
-- spool refuses those that are
abbrev pub is_done : Leftover → Bool
is_done l = not l.is_due && not l.is_writing && (nat_eq l.queued 0 || not l.is_flying && l.is_refused)

-- how many legs are queued at these hubs, up to 2^64 - 1, where all are done
abbrev pub with_hub : Option ℕ → Leftover → Option ℕ
with_hub None l = None
with_hub (Some n) l = if is_done l then Some (min (n + l.queued) 18446744073709551615) else None
