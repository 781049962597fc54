use Rattle.std.proofs.Common.{◌≡◌, take}
use Rattle.mcv_judge.specs.PairsInMemory.{legs_of}
use Rattle.mcv_blocks.specs.MergedLegs.{leaves_of}
use Rattle.mcv_blocks.proofs.legs.all_borrowed.Given as goal

abbrev pub invariant-loop-leg : goal.invariant-loop-leg
invariant-loop-leg l = legs_of l.all.items ≡ leaves_of (take l.leg-index l.legs)
