use Rattle.std.proofs.Common.{◌≡◌, ◌++◌, ◌+◌, ◌*◌, Bor, List, map, suc, take}
use Rattle.mcv_base.specs.declared.reply.Outcome.TheVariants.{Good}
use Rattle.mcv_rules.specs.Plan.{Leg}
use Rattle.mcv_rules.specs.NormalForm.{all_of, led_by, leg_of, part_of, turns_of, whole_of}
use Rattle.mcv_rules.specs.declared.arrival.After.TheVariants as after
use Rattle.mcv_rules.specs.declared.plan.PlannedLeg.{PlannedLeg}
use Rattle.mcv_symbolic.specs.SetLists.{acknowledged}
use Rattle.mcv_symbolic.specs.Structure.{if_all}
use Rattle.mcv_symbolic.proofs.sets.+acknowledging.Given as goal

abbrev shown : List (Bor PlannedLeg) → List Leg
shown legs = map (λ l. leg_of l.now) legs

-- the legs and the reply of the children so far
abbrev pub invariant-push_acknowledged_of_all-loop-child : goal.invariant-push_acknowledged_of_all-loop-child
invariant-push_acknowledged_of_all-loop-child l =
    let so_far = all_of (map whole_of (take (suc l.child-index) l.fn.children)) in
    record {
      legs : shown l.legs.items ≡ shown l.fn.legs.items ++ acknowledged so_far;
      reply : l.reply ≡ if_all Good so_far;
    }

abbrev pub invariant-push_acknowledged_beside-loop-other : goal.invariant-push_acknowledged_beside-loop-other
invariant-push_acknowledged_beside-loop-other l = shown l.legs.items ≡ shown l.fn.legs.items ++ acknowledged (led_by (map part_of (take (suc l.other-index) l.fn.children)))

abbrev pub invariant-push_acknowledged_on_error-loop-child : goal.invariant-push_acknowledged_on_error-loop-child
invariant-push_acknowledged_on_error-loop-child l =
    let so_far = turns_of after.Error (map whole_of (take (suc l.child-index) l.fn.children)) in
    record {
      legs : shown l.legs.items ≡ shown l.fn.legs.items ++ acknowledged so_far;
      reply : l.last ≡ if_all Good so_far;
    }

abbrev pub decreases-push_acknowledged : goal.decreases-push_acknowledged
decreases-push_acknowledged l = 2 * goal.size-push_acknowledged l

abbrev pub decreases-push_acknowledged_of_all : goal.decreases-push_acknowledged_of_all
decreases-push_acknowledged_of_all l = 2 * goal.size-push_acknowledged_of_all l + 1

abbrev pub decreases-push_acknowledged_beside : goal.decreases-push_acknowledged_beside
decreases-push_acknowledged_beside l = 2 * goal.size-push_acknowledged_beside l + 1

abbrev pub decreases-push_acknowledged_on_error : goal.decreases-push_acknowledged_on_error
decreases-push_acknowledged_on_error l = 2 * goal.size-push_acknowledged_on_error l + 1

abbrev pub decreases-push_acknowledged_on_miss : goal.decreases-push_acknowledged_on_miss
decreases-push_acknowledged_on_miss l = 2 * goal.size-push_acknowledged_on_miss l + 1
