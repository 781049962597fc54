-- The value of `Routes` from its fields.
use Rattle.std.specs.Prelude.{◌≡◌, ◌<◌, ℕ, List, map, true}
use Rattle.std.specs.List.{All}
use Rattle.mcv_base.specs.Server.{is_server}
use Rattle.mcv_base.specs.declared.request.Moment.{Moment}
use Rattle.mcv_route.specs.Aliases.{AreSelected}
use Rattle.mcv_route.specs.Eras.{breaks_of, IsBreakTable}
use Rattle.mcv_route.specs.declared.routes.AliasedRoute.{AliasedRoute}
use Rattle.mcv_route.specs.declared.routes.Routes.TheInside.{Inside}
use Rattle.mcv_route.specs.Limits.{AreWithinLimits}
use Rattle.mcv_route.specs.Routes.{RouteEntry, RoutesValue, IsSoundRoutes}
use Rattle.mcv_route.specs.View.{view}

abbrev pub entry_view : AliasedRoute → RouteEntry
entry_view e = record { aliases = e.aliases.items; tree = view e.route }

abbrev pub routes_view : Inside → RoutesValue
routes_view r = record { servers = r.servers; symbols = r.symbols; entries = map entry_view r.entries.items; window = r.window }

-- the numbers of moments
abbrev pub numbers_of : List Moment → List ℕ
numbers_of moments = map (λ m. m.0) moments

-- the trees are sound and within their limits, each text is a server's, each symbol is over one server or more, each route is selected by prefixes of its own, and the table of breaks is that of the trees
pub record AreSound (r : Inside) : Type 0 where
  pub trees : IsSoundRoutes (routes_view r)
  pub texts : All (λ text. is_server text ≡ true) (routes_view r).servers
  pub sizes : All (λ s. 0 < s.n) (routes_view r).symbols
  pub limits : AreWithinLimits (routes_view r)
  pub selected : AreSelected (routes_view r).entries
  pub table : IsBreakTable (breaks_of (routes_view r)) (numbers_of r.break_table.items)
