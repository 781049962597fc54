use Rattle.std.proofs.Common.{◌≡◌, ◌+◌, drop}
use Rattle.mcv_route.specs.Children.{policy_of}
use Rattle.mcv_rules.specs.PlanInMemory.{operations_of}
use Rattle.mcv_rules.proofs.layout.policy_number.Given as goal

-- no policy so far is the operation's
abbrev pub invariant-loop-number : goal.invariant-loop-number
invariant-loop-number l = policy_of l.op (operations_of l.policies) ≡ l.number + policy_of l.op (operations_of (drop l.number l.policies))
