use Rattle.std.proofs.Common.{◌≡◌, ◌<◌, ◌≤◌, ◌-◌, length, get_or, subst, arith}
use Rattle.mcv_plan.proofs.ChildOfLeg.{found_between}
use Rattle.mcv_plan.proofs.hearing.belongs.Goals as goal

pub returns-else-child-eq0 : goal.returns-else-child-eq0
returns-else-child-eq0 c = λ on.
    let es = c.args.ends.now in
    let child = c.args.child in
    let there = c.if-child-ends.false in
    let behind = c.if-ends-child.false in
    let low : child < length es = grind (arith, there) in
    let upper : c.args.entry < get_or es child 0 = grind (arith, behind) in
    let lower : get_or es (child - 1) 0 ≤ c.args.entry = grind (arith, on) in
    let placed = c.requires in
    found_between placed.0 es placed.1 c.args.entry child placed.2 low upper
    (λ j same. let before : child - 1 ≡ j = omega (arith, same) in subst (λ i. get_or es i 0 ≤ c.args.entry) before lower)
