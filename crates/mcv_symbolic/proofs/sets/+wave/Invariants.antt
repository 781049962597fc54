use Rattle.std.proofs.Common.{◌≡◌, ◌++◌, ◌+◌, ◌*◌, Bor, List, map, suc, take}
use Rattle.mcv_rules.specs.Plan.{Leg, reply}
use Rattle.mcv_rules.specs.NormalForm.{all_of, led_by, leg_of, part_of, turns_of, whole_of}
use Rattle.mcv_rules.specs.declared.plan.PlannedLeg.{PlannedLeg}
use Rattle.mcv_symbolic.specs.SetLists.{counted}
use Rattle.mcv_symbolic.specs.Structure.{nothing}
use Rattle.mcv_symbolic.proofs.sets.+wave.Given as goal

abbrev shown : List (Bor PlannedLeg) → List Leg
shown legs = map (λ l. leg_of l.now) legs

-- the legs and the reply of the children so far
abbrev pub invariant-push_wave_of_all-loop-child : goal.invariant-push_wave_of_all-loop-child
invariant-push_wave_of_all-loop-child l =
    let so_far = all_of (map whole_of (take (suc l.child-index) l.fn.children)) in
    record {
      legs : shown l.legs.items ≡ shown l.fn.legs.items ++ counted so_far nothing;
      reply : l.reply ≡ reply so_far nothing;
    }

abbrev pub invariant-push_wave_beside-loop-child : goal.invariant-push_wave_beside-loop-child
invariant-push_wave_beside-loop-child l = shown l.legs.items ≡ shown l.fn.legs.items ++ counted (led_by (map part_of (take (suc l.child-index) l.fn.children))) nothing

abbrev pub invariant-push_wave_in_turn-loop-child : goal.invariant-push_wave_in_turn-loop-child
invariant-push_wave_in_turn-loop-child l =
    let so_far = turns_of l.after (map whole_of (take (suc l.child-index) l.fn.children)) in
    record {
      legs : shown l.legs.items ≡ shown l.fn.legs.items ++ counted so_far nothing;
      reply : l.reply ≡ reply so_far nothing;
    }

abbrev pub decreases-push_first_wave : goal.decreases-push_first_wave
decreases-push_first_wave l = 2 * goal.size-push_first_wave l

abbrev pub decreases-push_wave_of_all : goal.decreases-push_wave_of_all
decreases-push_wave_of_all l = 2 * goal.size-push_wave_of_all l + 1

abbrev pub decreases-push_wave_beside : goal.decreases-push_wave_beside
decreases-push_wave_beside l = 2 * goal.size-push_wave_beside l + 1

abbrev pub decreases-push_wave_in_turn : goal.decreases-push_wave_in_turn
decreases-push_wave_in_turn l = 2 * goal.size-push_wave_in_turn l + 1
