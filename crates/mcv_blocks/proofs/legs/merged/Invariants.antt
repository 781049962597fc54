use Rattle.std.proofs.Common.{◌≡◌, ◌+◌, ◌-◌, ◌≤◌, ◌++◌, drop, length}
use Rattle.mcv_blocks.specs.MergedLegs.{leaves_of, merge}
use Rattle.mcv_blocks.proofs.legs.merged.Given as goal

abbrev pub invariant-loop-next : goal.invariant-loop-next
invariant-loop-next l = record {
  left : l.left ≤ length l.first;
  right : l.right ≤ length l.second;
  legs : leaves_of l.all.items ++ merge (leaves_of (drop l.left l.first)) (leaves_of (drop l.right l.second)) ≡ merge (leaves_of l.first) (leaves_of l.second);
}

abbrev pub decreases-loop-next : goal.decreases-loop-next
decreases-loop-next l = (length l.first - l.left) + (length l.second - l.right)
