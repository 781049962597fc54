use Rattle.std.proofs.Common.{◌≡◌, ◌++◌, drop}
use Rattle.mcv_blocks.specs.Blocks.{positions_of}
use Rattle.mcv_judge.specs.PairsInMemory.{legs_of}
use Rattle.mcv_picture.proofs.marks.push_legs_of.Given as goal

-- the positions so far, and those of the legs that are left, are the whole
abbrev pub invariant-loop-leg : goal.invariant-loop-leg
invariant-loop-leg l = l.positions.items ++ positions_of (legs_of (drop l.leg-index l.legs)) ≡ l.fn.positions.items ++ positions_of (legs_of l.legs)
