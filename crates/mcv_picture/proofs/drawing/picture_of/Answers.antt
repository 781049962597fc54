use Rattle.std.proofs.Common.{arith}
use Rattle.mcv_blocks.proofs.RouteClasses.{few_routes, number_within}
use Rattle.mcv_draw.specs.Walk.{elements_of}
use Rattle.mcv_picture.specs.Found.{AreMarksOf}
use Rattle.mcv_route.specs.View.{view}
use Rattle.mcv_picture.proofs.RoutesInTurn.{all_drawn, none_drawn, one_drawn}
use Rattle.mcv_picture.proofs.drawing.picture_of.Goals as goal

pub overflow_add-number : goal.overflow_add-number
overflow_add-number c =
    let within = number_within c.args.routes.now c.loop-route.number (view c.in-Some.route.now) c.in-Some.ensures in
    let few = few_routes c.args.routes.now c.servers-servers.ensures.limits in
    omega (arith, within, few)

pub loop-route-init : goal.loop-route-init
loop-route-init c = none_drawn (AreMarksOf c.args.found.now c.args.routes.now) c.args.routes.now (elements_of c.new-picture.result) c.new-picture.ensures

pub loop-route-preserved : goal.loop-route-preserved
loop-route-preserved c =
    one_drawn (AreMarksOf c.args.found.now c.args.routes.now) c.args.routes.now c.loop-route.number (view c.in-Some.route.now) (elements_of c.loop-route.picture) (elements_of c.draw_route.new.picture) c.in-Some.ensures
    c.in_ok-draw_route.ensures c.loop-route.invariant

pub loop-route-smaller : goal.loop-route-smaller
loop-route-smaller c =
    let within = number_within c.args.routes.now c.loop-route.number (view c.in-Some.route.now) c.in-Some.ensures in
    omega (arith, within)

pub returns : goal.returns
returns c = all_drawn (AreMarksOf c.args.found.now c.args.routes.now) c.args.routes.now c.loop-route.number (elements_of c.loop-route.picture) (rw c.in_default.is at c.route.ensures) c.loop-route.invariant
