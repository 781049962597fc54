use Rattle.std.proofs.Common.{◌≡◌, ◌++◌, drop, map}
use Rattle.mcv_witness.specs.Finding.{outcomes_of}
use Rattle.mcv_picture.proofs.marks.push_answered.Given as goal

-- the positions so far, and those of the legs that are left, are the whole
abbrev pub invariant-loop-leg : goal.invariant-loop-leg
invariant-loop-leg l =
    l.positions.items ++ map (λ e. e.0) (outcomes_of (drop l.leg-index l.legs)) ≡ l.fn.positions.items ++ map (λ e. e.0) (outcomes_of l.legs)
