use Rattle.std.proofs.Common.{◌≡◌, drop}
use Rattle.mcv_judge.specs.PairsInMemory.{legs_of}
use Rattle.mcv_judge.specs.Reason.{is_one_missing}
use Rattle.mcv_judge.proofs.reasons.is_one_missing.Given as goal

abbrev pub invariant-loop-position : goal.invariant-loop-position
invariant-loop-position l = is_one_missing (legs_of l.legs) (drop l.position-index l.positions) ≡ is_one_missing (legs_of l.legs) l.positions
