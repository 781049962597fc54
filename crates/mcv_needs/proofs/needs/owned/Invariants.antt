use Rattle.std.proofs.Common.{◌≡◌, take}
use Rattle.mcv_alike.specs.Numbers.{legs_value}
use Rattle.mcv_judge.specs.PairsInMemory.{legs_of}
use Rattle.mcv_needs.proofs.needs.owned.Given as goal

-- the copies so far
abbrev pub invariant-loop-leg : goal.invariant-loop-leg
invariant-loop-leg l = legs_value l.all.items ≡ legs_of (take l.leg-index l.legs)
