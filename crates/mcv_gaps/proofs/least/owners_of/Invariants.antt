use Rattle.std.proofs.Common.{take}
use Rattle.mcv_gaps.specs.Least.{AreOwners, legs_missing}
use Rattle.mcv_gaps.proofs.least.owners_of.Given as goal

-- those of the legs so far
abbrev pub invariant-loop-number : goal.invariant-loop-number
invariant-loop-number l = AreOwners l.owners (legs_missing (take l.number l.missing))
