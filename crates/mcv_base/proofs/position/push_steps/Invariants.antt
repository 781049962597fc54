use Rattle.std.proofs.Common.{◌≡◌, ◌++◌, take, codes, decimal}
use Rattle.std.specs.List.{flat_map}
use Rattle.mcv_base.proofs.position.push_steps.Given as goal

abbrev pub invariant-loop-child : goal.invariant-loop-child
invariant-loop-child l = l.text.items ≡ l.initial.text.items ++ flat_map (λ m. codes "." ++ decimal m) (take l.child-index l.others)
