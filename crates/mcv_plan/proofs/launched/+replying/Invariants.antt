use Rattle.std.proofs.Common.{None, ◌≡◌, ◌+◌, ◌*◌, drop}
use Rattle.mcv_plan.specs.KnownOutcomes.{own_in}
use Rattle.mcv_plan.specs.ReachedAnswers.{answer_from, waits}
use Rattle.mcv_plan.specs.State.{answered_each, answers_each}
use Rattle.mcv_plan.specs.View.{seen}
use Rattle.mcv_plan.proofs.WorstAtOnce.{worst_from}
use Rattle.mcv_plan.proofs.launched.+replying.Given as goal

abbrev pub invariant-worst_in-loop-child : goal.invariant-worst_in-loop-child
invariant-worst_in-loop-child l = record {
  all : waits (answered_each (own_in l.outcomes) (seen (drop l.child-index l.children))) ≡ waits (answered_each (own_in l.outcomes) (seen l.children));
  worst : worst_from l.worst (answered_each (own_in l.outcomes) (seen (drop l.child-index l.children))) ≡ worst_from None (answered_each (own_in l.outcomes) (seen l.children));
}

abbrev pub invariant-search_in-loop-child : goal.invariant-search_in-loop-child
invariant-search_in-loop-child l = answer_from l.after l.reply (answers_each (own_in l.outcomes) (seen (drop l.child-index l.others))) ≡ answer_from l.after l.initial.reply (answers_each (own_in l.outcomes) (seen l.others))

abbrev pub decreases-reply_in : goal.decreases-reply_in
decreases-reply_in l = 2 * goal.size-reply_in l

abbrev pub decreases-worst_in : goal.decreases-worst_in
decreases-worst_in l = 2 * goal.size-worst_in l + 1

abbrev pub decreases-search_in : goal.decreases-search_in
decreases-search_in l = 2 * goal.size-search_in l + 1

abbrev pub decreases-first_in : goal.decreases-first_in
decreases-first_in l = 2 * goal.size-first_in l + 1
