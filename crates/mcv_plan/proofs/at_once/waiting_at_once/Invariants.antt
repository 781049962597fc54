use Rattle.std.proofs.Common.{◌≡◌, ◌≤◌, ◌+◌, drop}
use Rattle.mcv_plan.specs.ReachedAnswers.{nothing, waits}
use Rattle.mcv_plan.specs.State.{ReflectEach, answered_each}
use Rattle.mcv_plan.specs.View.{seen}
use Rattle.mcv_plan.proofs.at_once.waiting_at_once.Given as goal

abbrev pub invariant-loop-child : goal.invariant-loop-child
invariant-loop-child l = record {
  waiting : ReflectEach nothing (seen l.children) → l.waiting + waits (answered_each nothing (seen (drop l.child-index l.children))) ≡ waits (answered_each nothing (seen l.children));
  bound : l.waiting ≤ l.child-index;
}
