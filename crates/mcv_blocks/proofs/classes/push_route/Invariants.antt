use Rattle.std.proofs.Common.{◌≡◌, ◌++◌, map}
use Rattle.mcv_blocks.specs.Places.{of_route}
use Rattle.mcv_blocks.proofs.classes.push_route.Given as goal

abbrev pub invariant-loop-class : goal.invariant-loop-class
invariant-loop-class l = l.classes.items ≡ l.fn.classes.items ++ map (of_route l.number) l.yielded
