use Rattle.mcv_judge.specs.PairsInMemory.{legs_of}
use Rattle.mcv_gaps.specs.Gaps.{wanteds_of}
use Rattle.mcv_gaps.proofs.Needed.{IsSoFar}
use Rattle.mcv_gaps.proofs.least.needed_of.Given as goal

abbrev pub invariant-loop-number : goal.invariant-loop-number
invariant-loop-number l = IsSoFar (wanteds_of l.wanted) l.missing l.number (legs_of l.kept.items)
