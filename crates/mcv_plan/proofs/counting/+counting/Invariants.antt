use Rattle.std.proofs.Common.{◌≡◌, ℕ, suc, List, take}
use Rattle.mcv_route.specs.Situation.{shadowed}
use Rattle.mcv_rules.specs.PlanInMemory.{children_of, situation_at, targets_of}
use Rattle.mcv_plan.specs.Counts.{capped, legs_each}
use Rattle.mcv_plan.proofs.CountsAdd.{initial_so_far}
use Rattle.mcv_plan.proofs.counting.+counting.Given as goal

-- the total so far is that of the children so far
abbrev pub invariant-count_each-loop-child : goal.invariant-count_each-loop-child
invariant-count_each-loop-child l = (position : List ℕ) → l.total ≡ capped (legs_each 0 (children_of (take l.child-index l.children)) (situation_at l.asked position))

abbrev pub invariant-count_initial-loop-child : goal.invariant-count_initial-loop-child
invariant-count_initial-loop-child l = (position : List ℕ) → l.total ≡ capped (initial_so_far l.fn.children (take l.child-index l.others) (situation_at l.fn.asked position))

abbrev pub invariant-count_pool-loop-shadow : goal.invariant-count_pool-loop-shadow
invariant-count_pool-loop-shadow l = (position : List ℕ) → l.total ≡ capped (suc (legs_each 0 (targets_of (take l.shadow-index l.shadows)) (shadowed (situation_at l.fn.asked position))))
