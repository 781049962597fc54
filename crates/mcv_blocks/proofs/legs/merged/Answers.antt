use Rattle.std.proofs.Common.{◌+◌, ◌-◌, ◌≤◌, ◌++◌, Bor, take, drop, length, ap, ◌∙◌, subst, arith}
use Rattle.std.proofs.lemmas.List.{length-drop, map_push, take_rest}
use Rattle.mcv_rules.specs.declared.plan.PlannedLeg.{PlannedLeg}
use Rattle.mcv_blocks.specs.MergedLegs.{leaf_of, leaves_of, merge}
use Rattle.mcv_blocks.proofs.MergesRise.{merged_more}
use Rattle.mcv_blocks.proofs.legs.merged.Goals as goal

pub loop-next-preserved : goal.loop-next-preserved
loop-next-preserved c =
    let first = c.args.first.now in
    let second = c.args.second.now in
    let left = c.loop-next.left in
    let right = c.loop-next.right in
    let next = c.in-Some.next in
    let done = c.loop-next.all.items in
    let so_far = c.loop-next.invariant in
    let e = take_rest first left in
    let f = take_rest second right in
    let more = merge (leaves_of (drop (left + next.first) first)) (leaves_of (drop (right + next.second) second)) in
    let some : next.first ≤ length (drop left first) = subst (λ xs. next.first ≤ length xs) e c.in-Some.ensures.first in
    let others : next.second ≤ length (drop right second) = subst (λ xs. next.second ≤ length xs) f c.in-Some.ensures.second in
    record {
      left = let low = so_far.left in omega (arith, some, low, length-drop left first);
      right = let low = so_far.right in omega (arith, others, low, length-drop right second);
      legs = ap (λ ls. leaves_of ls ++ more) c.in_ok-push.ensures.items
          ∙ ap (λ ls. ls ++ more) (map_push (λ (l : Bor PlannedLeg). leaf_of l.now) done next.leg)
          ∙ merged_more first second left right next.first next.second (leaves_of done) (merge (leaves_of first) (leaves_of second)) (leaf_of next.leg.now) (take (length first - left) (drop left first)) (take (length second - right) (drop right second)) e f so_far.legs c.in-Some.ensures.legs;
    }
