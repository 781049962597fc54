use Rattle.std.proofs.Common.{◌≡◌, ◌∙◌, IfOk, [], None, Some, option_map, rules, sym, ap, get_or}
use Rattle.std.specs.Prelude.{option_copied, slice_get}
use Rattle.std.specs.Arc.{arc_value}
use Rattle.mcv_route.specs.View.{view}
use Rattle.mcv_world.specs.World.{situation_of, tree_of}
use Rattle.mcv_asks.specs.Asks.{fields_in, fields_of}
use Rattle.mcv_plan.specs.Evaluation.{no_leg}
use Rattle.mcv_core.specs.Errands.{launch_of, launches_of, rest_of}
use Rattle.mcv_core.specs.Readers.{request_in}
use Rattle.mcv_core.specs.Requests.{heard_by}
use Rattle.mcv_core.specs.Rows.{call_of}
use Rattle.mcv_core.proofs.Requests.{by_parts, no_route, route_there, without_place, without_route}
use Rattle.mcv_core.proofs.StateFollowsOutcomes.{launch_get}
use Rattle.mcv_core.proofs.call.Call.request_of.Goals as goal

pub returns-in_default : goal.returns-in_default
returns-in_default c =
    let k = c.args.self.now in
    let e = c.args.errand.now in
    let r = c.args.routes.now in
    let none : None ≡ option_map (λ x. x.tree) (slice_get r.entries k.route) = search rules in
    rw (without_route (tree_of r k.route) (situation_of (call_of k)) (request_in e) (heard_by k) (launch_of e).position (no_route r k.route none)) at c.client_request.ensures

pub returns-in_default-get : goal.returns-in_default-get
returns-in_default-get c =
    let k = c.args.self.now in
    let e = c.args.errand.now in
    let r = c.args.routes.now in
    let h : [] ≡ (get_or (launches_of e) e.entry no_leg).position = search rules in
    let here : (launch_of e).position ≡ [] = ap (λ v. v.position) (launch_get (launches_of e) e.entry) ∙ sym h in
    rw (without_place (tree_of r k.route) (situation_of (call_of k)) (request_in e) (heard_by k) (launch_of e).position here) at c.client_request-in_default-get.ensures

pub returns : goal.returns
returns c =
    let k = c.args.self.now in
    let e = c.args.errand.now in
    let r = c.args.routes.now in
    let got : c.in-Some-get.launch.now ≡ get_or (launches_of e) e.entry no_leg = search rules in
    let launch : c.in-Some-get.launch.now ≡ launch_of e = got ∙ sym (launch_get (launches_of e) e.entry) in
    let some : Some (view c.in-Some.route.now) ≡ option_map (λ x. x.tree) (slice_get r.entries k.route) = search rules in
    let tree = route_there r k.route (view c.in-Some.route.now) some in
    let q : option_copied c.as_deref-request.result ≡ request_in e = search rules in
    let o : IfOk c.leg_request.result (λ x. x.op ≡ (launch_of e).op) = rw (ap (λ v. v.op) launch) at c.leg_request.ensures.op in
    let rest : IfOk c.leg_request.result (λ x. arc_value x.rest ≡ rest_of e) = search rules in
    let f : IfOk c.leg_request.result (λ x. fields_in x ≡ fields_of (view c.in-Some.route.now) (situation_of (call_of k)) (option_copied c.as_deref-request.result) (heard_by k) c.in-Some-get.launch.now.position) = search rules in
    by_parts c.leg_request.result (launch_of e).op (rest_of e) (fields_of (tree_of r k.route) (situation_of (call_of k)) (request_in e) (heard_by k) (launch_of e).position) o rest (rw (tree, q, launch) at f)
