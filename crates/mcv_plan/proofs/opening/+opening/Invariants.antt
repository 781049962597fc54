use Rattle.std.proofs.Common.{◌≡◌, ◌≤◌, ◌+◌, ◌*◌, max, ◌++◌, [], cond, drop, length, vec_capacity}
use Rattle.mcv_route.specs.Children.{joined}
use Rattle.mcv_plan.specs.ReachedAnswers.{answer_from, goes_on_after, nothing, searched, stop_from}
use Rattle.mcv_plan.specs.State.{ReflectEach, answers_each, entries_each, sends_each}
use Rattle.mcv_plan.specs.View.{seen}
use Rattle.mcv_plan.specs.declared.course.Course.{size-Course}
use Rattle.mcv_plan.proofs.opening.+opening.Given as goal

abbrev pub invariant-open_all-loop-child : goal.invariant-open_all-loop-child
invariant-open_all-loop-child l = record {
  fresh : ReflectEach nothing (seen l.others) → l.fresh.items ++ joined (sends_each nothing (seen (drop l.child-index l.others))) ≡ l.initial.fresh.items ++ joined (sends_each nothing (seen l.others));
  count : length l.fresh.items + length (joined (entries_each (seen (drop l.child-index l.others)))) ≤ length l.initial.fresh.items + length (joined (entries_each (seen l.others)));
  capacity : vec_capacity l.fresh ≡ vec_capacity l.initial.fresh;
}

abbrev pub invariant-go_on-loop-child : goal.invariant-go_on-loop-child
invariant-go_on-loop-child l = record {
  fresh : ReflectEach nothing (seen l.others) →
      l.fresh.items ++ cond (goes_on_after l.after l.answered) (searched l.after (answers_each nothing (seen (drop l.child-index l.others))) (sends_each nothing (seen (drop l.child-index l.others)))) []
      ≡ l.initial.fresh.items ++ cond (goes_on_after l.after l.initial.answered) (searched l.after (answers_each nothing (seen l.others)) (sends_each nothing (seen l.others))) [];
  reply : ReflectEach nothing (seen l.others) → answer_from l.after l.answered (answers_each nothing (seen (drop l.child-index l.others))) ≡ answer_from l.after l.initial.answered (answers_each nothing (seen l.others));
  steps : ReflectEach nothing (seen l.others) → l.steps + stop_from l.after l.answered (answers_each nothing (seen (drop l.child-index l.others))) ≡ stop_from l.after l.initial.answered (answers_each nothing (seen l.others));
  passed : l.steps ≡ l.child-index;
  count : length l.fresh.items + length (joined (entries_each (seen (drop l.child-index l.others)))) ≤ length l.initial.fresh.items + length (joined (entries_each (seen l.others)));
  capacity : vec_capacity l.fresh ≡ vec_capacity l.initial.fresh;
}

abbrev pub decreases-open : goal.decreases-open
decreases-open l = 4 * goal.size-open l

abbrev pub decreases-open_all : goal.decreases-open_all
decreases-open_all l = 4 * goal.size-open_all l + 1

abbrev pub decreases-go_on : goal.decreases-go_on
decreases-go_on l = 4 * goal.size-go_on l + 1

abbrev pub decreases-open_in_turn : goal.decreases-open_in_turn
decreases-open_in_turn l = 4 * goal.size-open_in_turn l + 2

abbrev pub decreases-open_on_hit : goal.decreases-open_on_hit
decreases-open_on_hit l = 4 * max (size-Course l.first.now) (size-Course l.second.now) + 1
