use Rattle.std.proofs.Common.{◌∙◌, sym, ap, option_map}
use Rattle.mcv_route.specs.Places.{is_alias}
use Rattle.mcv_route.specs.Routes.{RouteEntry}
use Rattle.mcv_legs.proofs.FirstEntry.{found_at, not_found}
use Rattle.mcv_legs.proofs.legs.route_for.Goals as goal

pub returns-in_err-route_of : goal.returns-in_err-route_of
returns-in_err-route_of c =
    let none = not_found (is_alias c.args.prefix.now) c.args.routes.now.entries (sym c.in_err-route_of.ensures) in
    rw (c.from_residual.ensures, none)

pub returns : goal.returns
returns c =
    let found = found_at (is_alias c.args.prefix.now) c.args.routes.now.entries c.in_ok-route_of.field-0 (sym c.in_ok-route_of.ensures) in
    c.route.ensures ∙ ap (option_map (λ (entry : RouteEntry). entry.tree)) (sym found)
