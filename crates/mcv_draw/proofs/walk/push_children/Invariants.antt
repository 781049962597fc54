use Rattle.std.proofs.Common.{◌≡◌, ◌≤◌, ◌++◌, map}
use Rattle.mcv_route.specs.View.{view}
use Rattle.mcv_draw.specs.Children.{drawn_children, tree_count}
use Rattle.mcv_draw.specs.Drawn.{branch_to}
use Rattle.mcv_draw.specs.Marks.{marks_of}
use Rattle.mcv_draw.specs.Walk.{branch_of, handle_of}
use Rattle.mcv_draw.proofs.DrawnInTurn.{pushed_from}
use Rattle.mcv_draw.proofs.walk.push_children.Given as goal

-- the children from this number on were pushed
abbrev pub invariant-loop-number : goal.invariant-loop-number
invariant-loop-number l = record {
  within : l.number ≤ tree_count (drawn_children (view l.parent.route.now));
  pushed : map handle_of l.pending.items
      ≡ map handle_of l.fn.pending.items ++ pushed_from (branch_to (marks_of l.marks) (branch_of l.parent.branch) l.row (view l.parent.route.now)) l.number (view l.parent.route.now);
}

abbrev pub decreases-loop-number : goal.decreases-loop-number
decreases-loop-number l = l.number
