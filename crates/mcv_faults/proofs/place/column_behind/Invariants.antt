use Rattle.std.proofs.Common.{◌≡◌, ◌≤◌, ◌+◌, drop}
use Rattle.mcv_faults.specs.TextPlace.{column_behind}
use Rattle.mcv_faults.proofs.place.column_behind.Given as goal

-- the column is that behind the bytes so far
abbrev pub invariant-loop-byte : goal.invariant-loop-byte
invariant-loop-byte l = (column_behind l.before 1 ≡ column_behind (drop l.byte-index l.before) l.column) × (l.column ≤ l.byte-index + 1)
