use Rattle.std.proofs.Common.{◌≡◌, ◌+◌, ◌*◌, drop}
use Rattle.mcv_plan.specs.ReachedAnswers.{answer_from, nothing, stop_from}
use Rattle.mcv_plan.specs.State.{ReflectEach, answers_each}
use Rattle.mcv_plan.specs.View.{seen}
use Rattle.mcv_plan.proofs.at_once.+at_once.Given as goal

abbrev pub invariant-search_at_once-loop-child : goal.invariant-search_at_once-loop-child
invariant-search_at_once-loop-child l = record {
  reply : ReflectEach nothing (seen l.others) → answer_from l.after l.reply (answers_each nothing (seen (drop l.child-index l.others))) ≡ answer_from l.after l.initial.reply (answers_each nothing (seen l.others));
  steps : ReflectEach nothing (seen l.others) → l.steps + stop_from l.after l.reply (answers_each nothing (seen (drop l.child-index l.others))) ≡ stop_from l.after l.initial.reply (answers_each nothing (seen l.others));
  passed : l.steps ≡ l.child-index;
}

abbrev pub decreases-reply_at_once : goal.decreases-reply_at_once
decreases-reply_at_once l = 2 * goal.size-reply_at_once l

abbrev pub decreases-first_at_once : goal.decreases-first_at_once
decreases-first_at_once l = 2 * goal.size-first_at_once l + 1

abbrev pub decreases-search_at_once : goal.decreases-search_at_once
decreases-search_at_once l = 2 * goal.size-search_at_once l + 1
