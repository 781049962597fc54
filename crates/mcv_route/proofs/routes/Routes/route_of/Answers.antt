use Rattle.std.proofs.Common.{◌∙◌}
use Rattle.mcv_route.specs.Places.{is_alias}
use Rattle.mcv_route.specs.RoutesView.{entry_view}
use Rattle.mcv_route.proofs.BuiltRoutes.{position-mapped}
use Rattle.mcv_route.proofs.routes.Routes.route_of.Goals as goal

pub returns : goal.returns
returns c =
    rw (← c.self.view_is)
    (rw c.as_slice.ensures.value at c.first_of_prefix.ensures ∙ position-mapped (is_alias c.args.prefix.now) entry_view c.self.inside.entries.items)
