use Rattle.std.proofs.Common.{◌≡◌, map}
use Rattle.mcv_config.specs.ConfigValue.{policy_of, prefix_of}
use Rattle.mcv_config.specs.Selectors.{of_operation}
use Rattle.mcv_config.proofs.selecting.by_operation.Given as goal

abbrev pub invariant-loop-policy : goal.invariant-loop-policy
invariant-loop-policy l = map policy_of l.named.items ≡ map of_operation (map prefix_of l.yielded)
