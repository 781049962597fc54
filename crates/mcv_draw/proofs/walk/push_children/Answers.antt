use Rattle.std.proofs.Common.{◌≡◌, ◌-◌, ◌++◌, ℕ, suc, arith, map, subst, sym}
use Rattle.mcv_route.specs.View.{view}
use Rattle.mcv_draw.specs.Drawn.{branch_to}
use Rattle.mcv_draw.specs.Marks.{marks_of}
use Rattle.mcv_draw.specs.Walk.{branch_of, handle_of}
use Rattle.mcv_draw.proofs.DrawnInTurn.{handle, no_child_missing, none_pushed, one_pushed, pushed_from, same_handle, seen_last}
use Rattle.mcv_draw.proofs.walk.push_children.Goals as goal

pub loop-number-init : goal.loop-number-init
loop-number-init c =
    let parent = c.args.parent.now in
    let tree = view parent.route.now in
    record {
      within = omega (arith, c.child_count-number.ensures);
      pushed = none_pushed (branch_to (marks_of c.args.marks.now) (branch_of parent.branch) c.args.row tree) tree c.child_count-number.result (map handle_of c.args.pending.now.items) c.child_count-number.ensures;
    }

pub loop-number-preserved : goal.loop-number-preserved
loop-number-preserved c =
    let parent = c.args.parent.now in
    let tree = view parent.route.now in
    let branches = branch_to (marks_of c.args.marks.now) (branch_of parent.branch) c.args.row tree in
    let old = map handle_of c.args.pending.now.items in
    let k = c.loop-number.number - 1 in
    let next : c.loop-number.number ≡ suc k = omega arith in
    let so_far = subst (λ (m : ℕ). map handle_of c.loop-number.pending.items ≡ old ++ pushed_from branches m tree) next c.loop-number.invariant.pushed in
    let same = same_handle (branch_of c.in_ok-branch.branch) (branches k) (view c.in-Some.route.now) c.in_ok-branch.ensures in
    record {
      within = omega (arith, c.loop-number.invariant.within);
      pushed = one_pushed branches tree (view c.in-Some.route.now) k old (map handle_of c.loop-number.pending.items) (map handle_of c.push.new.self.items) (omega (arith, c.loop-number.invariant.within))
          (sym c.in-Some.ensures) so_far (seen_last handle_of c.loop-number.pending.items c.push.new.self.items _ (handle (branches k) (view c.in-Some.route.now)) c.in_ok-push.ensures.items same);
    }

pub returns-in_default : goal.returns-in_default
returns-in_default c =
    absurd (no_child_missing (view c.args.parent.now.route.now) (c.loop-number.number - 1) (omega (arith, c.loop-number.invariant.within)) (sym (rw c.in_default.is at c.child_of.ensures)))

pub returns : goal.returns
returns c =
    let parent = c.args.parent.now in
    let tree = view parent.route.now in
    let branches = branch_to (marks_of c.args.marks.now) (branch_of parent.branch) c.args.row tree in
    let none : c.loop-number.number ≡ 0 = omega arith in
    subst (λ (m : ℕ). map handle_of c.loop-number.pending.items ≡ map handle_of c.args.pending.now.items ++ pushed_from branches m tree) none c.loop-number.invariant.pushed
