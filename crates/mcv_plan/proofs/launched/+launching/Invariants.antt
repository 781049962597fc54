use Rattle.std.proofs.Common.{◌≡◌, ◌+◌, ◌*◌, max, drop}
use Rattle.mcv_route.specs.Children.{joined}
use Rattle.mcv_plan.specs.KnownOutcomes.{own_in}
use Rattle.mcv_plan.specs.ReachedAnswers.{searched}
use Rattle.mcv_plan.specs.State.{answers_each, holds, sends_each}
use Rattle.mcv_plan.specs.View.{seen}
use Rattle.mcv_plan.specs.declared.course.Course.{size-Course}
use Rattle.mcv_plan.proofs.launched.+launching.Given as goal

-- none so far launches it
abbrev pub invariant-any_launches-loop-child : goal.invariant-any_launches-loop-child
invariant-any_launches-loop-child l =
    holds l.entry (joined (sends_each (own_in l.outcomes) (seen (drop l.child-index l.children)))) ≡ holds l.entry (joined (sends_each (own_in l.outcomes) (seen l.children)))

abbrev pub invariant-search_launches-loop-child : goal.invariant-search_launches-loop-child
invariant-search_launches-loop-child l =
    holds l.entry (searched l.after (answers_each (own_in l.outcomes) (seen (drop l.child-index l.children))) (sends_each (own_in l.outcomes) (seen (drop l.child-index l.children))))
    ≡ holds l.entry (searched l.after (answers_each (own_in l.outcomes) (seen l.children)) (sends_each (own_in l.outcomes) (seen l.children)))

abbrev pub decreases-launches : goal.decreases-launches
decreases-launches l = 2 * goal.size-launches l

abbrev pub decreases-any_launches : goal.decreases-any_launches
decreases-any_launches l = 2 * goal.size-any_launches l + 1

abbrev pub decreases-search_launches : goal.decreases-search_launches
decreases-search_launches l = 2 * goal.size-search_launches l + 1

abbrev pub decreases-hit_launches : goal.decreases-hit_launches
decreases-hit_launches l = 2 * max (size-Course l.first.now) (size-Course l.second.now) + 1
