use Rattle.std.proofs.Common.{◌+◌, ◌*◌, map, take}
use Rattle.mcv_route.specs.Routes.{RoutesValue}
use Rattle.mcv_rules.specs.NormalForm.{part_of}
use Rattle.mcv_alike.specs.Numbers.{IsNumbering}
use Rattle.mcv_alike.specs.Plans.{AreOneParts}
use Rattle.mcv_alike.proofs.same.+comparing.Given as goal

-- each new plan so far does what the old one at its place does
abbrev pub invariant-are_same_plans-loop-number : goal.invariant-are_same_plans-loop-number
invariant-are_same_plans-loop-number l = (r n : RoutesValue) → IsNumbering r n l.numbering → AreOneParts r n (map part_of (take l.number l.olds)) (map part_of (take l.number l.news))

abbrev pub decreases-is_same_plan : goal.decreases-is_same_plan
decreases-is_same_plan l = 2 * goal.size-is_same_plan l

abbrev pub decreases-are_same_plans : goal.decreases-are_same_plans
decreases-are_same_plans l = 2 * goal.size-are_same_plans l + 1
