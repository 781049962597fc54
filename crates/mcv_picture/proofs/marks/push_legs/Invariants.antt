use Rattle.std.proofs.Common.{◌≡◌, ◌++◌, drop}
use Rattle.mcv_picture.proofs.marks.push_legs.Given as goal

-- the legs so far, and those that are left, are the whole
abbrev pub invariant-loop-leg : goal.invariant-loop-leg
invariant-loop-leg l = l.legs.items ++ drop l.leg-index l.named ≡ l.fn.legs.items ++ l.named
