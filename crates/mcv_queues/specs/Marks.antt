-- The marks of servers.
use Rattle.std.specs.Prelude.{◌+◌, ◌^◌, ◌-◌, ℕ, false, length, nat_eq, nat_lt, nat_le, get_or, cond, ◌&&◌, ◌||◌}
use Rattle.mcv_queues.specs.declared.marks.ServerFailures.{ServerFailures}
use Rattle.mcv_queues.specs.declared.marks.Marks.{Marks}

abbrev pub no_mark : ServerFailures
no_mark = record { failures = 0; marked = false }

-- the mark of each server
abbrev pub marks : Marks → ℕ → ServerFailures
marks m s = get_or m.servers.items s no_mark

-- how many servers are in the table
abbrev pub servers : Marks → ℕ
servers m = length m.servers.items

-- one server's mark changes, where the server is in the table
abbrev pub put_mark : ℕ → (ℕ → ServerFailures) → ℕ → (ServerFailures → ServerFailures) → ℕ → ServerFailures
put_mark n f s g t = cond (nat_eq s t && nat_lt s n) (g (f t)) (f t)

-- the failures end
abbrev pub answered_mark : ServerFailures → ServerFailures
answered_mark m = record { failures = 0; marked = m.marked }

-- one failure more; they stay at the greatest number
abbrev pub lost_mark : ServerFailures → ServerFailures
lost_mark m = record { failures = cond (nat_lt (m.failures + 1) (2 ^ 32)) (m.failures + 1) (2 ^ 32 - 1); marked = m.marked }

-- three failures in a row mark
abbrev pub checked_mark : ServerFailures → ServerFailures
checked_mark m = record { failures = m.failures; marked = m.marked || nat_le 3 m.failures }
