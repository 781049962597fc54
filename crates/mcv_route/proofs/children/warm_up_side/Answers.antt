use Rattle.std.proofs.Common.{arith}
use Rattle.mcv_route.specs.View.{view}
use Rattle.mcv_route.proofs.HandleChildren.{past-three}
use Rattle.mcv_route.proofs.children.warm_up_side.Goals as goal

pub returns-in_default : goal.returns-in_default
returns-in_default c = past-three (view c.args.cold.now) (view c.args.warm.now) (view c.args.cold.now) c.args.number (omega arith) (omega arith) (omega arith)
