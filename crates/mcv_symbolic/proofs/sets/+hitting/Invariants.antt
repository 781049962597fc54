use Rattle.std.proofs.Common.{◌≡◌, ◌++◌, ◌+◌, ◌*◌, Bor, List, length, map, suc, take}
use Rattle.mcv_base.specs.declared.reply.Outcome.TheVariants.{Error}
use Rattle.mcv_rules.specs.Plan.{Leg}
use Rattle.mcv_rules.specs.NormalForm.{all_of, leg_of, turns_of, whole_of}
use Rattle.mcv_rules.specs.declared.arrival.After.TheVariants as after
use Rattle.mcv_rules.specs.declared.plan.PlannedLeg.{PlannedLeg}
use Rattle.mcv_symbolic.specs.SetLists.{hits}
use Rattle.mcv_symbolic.specs.Structure.{if_all}
use Rattle.mcv_symbolic.proofs.sets.+hitting.Given as goal

abbrev shown : List (Bor PlannedLeg) → List Leg
shown legs = map (λ l. leg_of l.now) legs

-- the legs and the reply of the children so far
abbrev pub invariant-push_hits_of_all-loop-child : goal.invariant-push_hits_of_all-loop-child
invariant-push_hits_of_all-loop-child l =
    let so_far = all_of (map whole_of (take (suc l.child-index) l.fn.children)) in
    record {
      legs : shown l.legs.items ≡ shown l.fn.legs.items ++ hits so_far;
      reply : l.reply ≡ if_all Error so_far;
      start : l.start ≡ length l.fn.legs.items;
    }

abbrev pub invariant-push_hits_on_error-loop-child : goal.invariant-push_hits_on_error-loop-child
invariant-push_hits_on_error-loop-child l =
    let so_far = turns_of after.Error (map whole_of (take (suc l.child-index) l.fn.children)) in
    record {
      legs : shown l.legs.items ≡ shown l.fn.legs.items ++ hits so_far;
      reply : l.reply ≡ if_all Error so_far;
    }

abbrev pub invariant-push_hits_on_miss-loop-child : goal.invariant-push_hits_on_miss-loop-child
invariant-push_hits_on_miss-loop-child l =
    let so_far = turns_of after.Miss (map whole_of (take (suc l.child-index) l.fn.children)) in
    record {
      legs : shown l.legs.items ≡ shown l.fn.legs.items ++ hits so_far;
      reply : l.reply ≡ if_all Error so_far;
    }

abbrev pub decreases-push_hits : goal.decreases-push_hits
decreases-push_hits l = 3 * goal.size-push_hits l

abbrev pub decreases-push_hits_of_all : goal.decreases-push_hits_of_all
decreases-push_hits_of_all l = 3 * goal.size-push_hits_of_all l + 2

abbrev pub decreases-push_next_hits : goal.decreases-push_next_hits
decreases-push_next_hits l = 3 * goal.size-push_next_hits l + 1

abbrev pub decreases-push_hits_of_first : goal.decreases-push_hits_of_first
decreases-push_hits_of_first l = 3 * goal.size-push_hits_of_first l + 1

abbrev pub decreases-push_hits_on_error : goal.decreases-push_hits_on_error
decreases-push_hits_on_error l = 3 * goal.size-push_hits_on_error l + 1

abbrev pub decreases-push_hits_on_miss : goal.decreases-push_hits_on_miss
decreases-push_hits_on_miss l = 3 * goal.size-push_hits_on_miss l + 1
