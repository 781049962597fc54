use Rattle.std.proofs.Common.{◌-◌, length}
use Rattle.mcv_blocks.proofs.RouteClasses.{AreClassesBelow}
use Rattle.mcv_blocks.proofs.classes.route_classes.Given as goal

abbrev pub invariant-loop-route : goal.invariant-loop-route
invariant-loop-route l = AreClassesBelow l.routes l.number l.classes.items

abbrev pub decreases-loop-route : goal.decreases-loop-route
decreases-loop-route l = length l.routes.entries - l.number
