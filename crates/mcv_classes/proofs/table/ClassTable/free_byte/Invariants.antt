use Rattle.std.proofs.Common.{ℕ, ◌<◌}
use Rattle.mcv_classes.specs.Class.{IsFree}
use Rattle.mcv_classes.proofs.table.ClassTable.free_byte.Given as goal

-- no byte so far is free
abbrev pub invariant-loop-number : goal.invariant-loop-number
invariant-loop-number l = (c : ℕ) → c < l.number → IsFree l.self c → ⊥
