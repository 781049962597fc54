use Rattle.std.proofs.Common.{◌+◌, sym, subst, arith}
use Rattle.mcv_route.specs.View.{view}
use Rattle.mcv_blocks.proofs.RouteClasses.{AreClassesBelow, all_below, few_routes, more_classes, no_route_left, none_below, number_within}
use Rattle.mcv_blocks.proofs.classes.route_classes.Goals as goal

pub overflow_add-number : goal.overflow_add-number
overflow_add-number c =
    let within = number_within c.args.routes.now c.loop-route.number (view c.in-Some.route.now) c.in-Some.ensures in
    let few = few_routes c.args.routes.now c.servers-servers.ensures.limits in
    omega (arith, within, few)

pub loop-route-init : goal.loop-route-init
loop-route-init c = subst (AreClassesBelow c.args.routes.now 0) (sym c.new-classes.ensures.items) (none_below c.args.routes.now)

pub loop-route-preserved : goal.loop-route-preserved
loop-route-preserved c =
    let own = c.in_ok-push_route.ensures in
    subst (AreClassesBelow c.args.routes.now (c.loop-route.number + 1)) (sym own.2)
    (more_classes c.args.routes.now c.loop-route.number c.loop-route.classes.items (view c.in-Some.route.now) c.in-Some.ensures c.loop-route.invariant own.0 own.1)

pub loop-route-smaller : goal.loop-route-smaller
loop-route-smaller c =
    let within = number_within c.args.routes.now c.loop-route.number (view c.in-Some.route.now) c.in-Some.ensures in
    omega (arith, within)

pub returns : goal.returns
returns c = all_below c.args.routes.now c.loop-route.number c.loop-route.classes.items c.loop-route.invariant (no_route_left c.args.routes.now c.loop-route.number (rw c.in_default.is at c.route.ensures))
