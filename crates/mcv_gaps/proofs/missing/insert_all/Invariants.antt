use Rattle.std.proofs.Common.{take}
use Rattle.mcv_judge.specs.PairsInMemory.{legs_of}
use Rattle.mcv_gaps.specs.Gaps.{wanted_of}
use Rattle.mcv_gaps.proofs.MissedSoFar.{IsFoundSoFar}
use Rattle.mcv_gaps.proofs.missing.insert_all.Given as goal

abbrev pub invariant-loop-leaf : goal.invariant-loop-leaf
invariant-loop-leaf l = IsFoundSoFar (wanted_of l.fn.wanted) l.initial.found l.found (legs_of (take l.leaf-index l.leaf-items))
