use Rattle.std.proofs.Common.{◌≡◌, ◌+◌, ◌*◌, ◌++◌, length, map, max, slice_index, take}
use Rattle.mcv_route.specs.Children.{joined}
use Rattle.mcv_rules.specs.declared.plan.Plan.{size-Plan}
use Rattle.mcv_plan.specs.CourseOfPlan.{BuiltEach}
use Rattle.mcv_plan.specs.Entries.{legs_of}
use Rattle.mcv_plan.specs.View.{view}
use Rattle.mcv_plan.proofs.building.+building.Given as goal

abbrev pub invariant-build_each-loop-plan : goal.invariant-build_each-loop-plan
invariant-build_each-loop-plan l = record {
  entries : l.entries.items ≡ l.initial.entries.items ++ joined (map (legs_of (slice_index l.choice)) (take l.plan-index l.plans));
  courses : BuiltEach (slice_index l.choice) (take l.plan-index l.plans) (length l.initial.entries.items) l.ends.items (map view l.courses.items);
}

abbrev pub decreases-build : goal.decreases-build
decreases-build l = 3 * goal.size-build l

abbrev pub decreases-build_each : goal.decreases-build_each
decreases-build_each l = 3 * goal.size-build_each l + 1

abbrev pub decreases-build_on_hit : goal.decreases-build_on_hit
decreases-build_on_hit l = 3 * max (size-Plan l.first.now) (size-Plan l.second.now) + 1
