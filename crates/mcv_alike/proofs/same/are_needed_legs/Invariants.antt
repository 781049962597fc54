use Rattle.std.proofs.Common.{map, take}
use Rattle.mcv_route.specs.Routes.{RoutesValue}
use Rattle.mcv_rules.specs.NormalForm.{part_of}
use Rattle.mcv_alike.specs.Numbers.{IsNumbering, leg_value}
use Rattle.mcv_alike.specs.Plans.{AreAddedParts}
use Rattle.mcv_alike.proofs.same.are_needed_legs.Given as goal

-- the plans so far send the legs so far
abbrev pub invariant-loop-number : goal.invariant-loop-number
invariant-loop-number l = (r n : RoutesValue) → IsNumbering r n l.numbering → AreAddedParts r n (map leg_value (take l.number l.needed)) (map part_of (take l.number l.plans))
