use Rattle.std.proofs.Common.{◌≡◌, ◌++◌, length}
use Rattle.mcv_faults.specs.FaultPointer.{steps_pointer}
use Rattle.mcv_faults.proofs.pointer.push_steps.Given as goal

-- what is written, and the steps that are left, are the whole
abbrev pub invariant-loop-rest : goal.invariant-loop-rest
invariant-loop-rest l = l.pointer.items ++ steps_pointer l.rest ≡ l.fn.pointer.items ++ steps_pointer l.fn.path

abbrev pub decreases-loop-rest : goal.decreases-loop-rest
decreases-loop-rest l = length l.rest
