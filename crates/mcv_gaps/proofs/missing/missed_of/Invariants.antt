use Rattle.mcv_judge.specs.PairsInMemory.{legs_of}
use Rattle.mcv_gaps.specs.Gaps.{wanted_of}
use Rattle.mcv_gaps.proofs.MissedSoFar.{AreMissedSoFar}
use Rattle.mcv_gaps.proofs.missing.missed_of.Given as goal

abbrev pub invariant-loop-index : goal.invariant-loop-index
invariant-loop-index l = AreMissedSoFar (wanted_of l.wanted) l.wanted.readable.items l.index (legs_of l.legs.items)
