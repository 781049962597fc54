use Rattle.std.proofs.Common.{◌≡◌, ◌++◌, take}
use Rattle.mcv_judge.specs.PairsInMemory.{legs_of}
use Rattle.mcv_gaps.specs.Least.{legs_missing}
use Rattle.mcv_gaps.proofs.least.others.Given as goal

-- those that are kept, and those so far
abbrev pub invariant-loop-one : goal.invariant-loop-one
invariant-loop-one l = legs_of l.legs.items ≡ legs_of l.kept ++ legs_missing (take l.one-index l.rest)
