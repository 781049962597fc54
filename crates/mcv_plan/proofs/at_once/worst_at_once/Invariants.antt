use Rattle.std.proofs.Common.{◌≡◌, None, drop}
use Rattle.mcv_plan.specs.ReachedAnswers.{nothing}
use Rattle.mcv_plan.specs.State.{ReflectEach, answered_each}
use Rattle.mcv_plan.specs.View.{seen}
use Rattle.mcv_plan.proofs.WorstAtOnce.{worst_from}
use Rattle.mcv_plan.proofs.at_once.worst_at_once.Given as goal

abbrev pub invariant-loop-child : goal.invariant-loop-child
invariant-loop-child l = ReflectEach nothing (seen l.children) → worst_from l.worst (answered_each nothing (seen (drop l.child-index l.children))) ≡ worst_from None (answered_each nothing (seen l.children))
