-- The routing prefixes that select the routes (mcrouter wiki, Routing Prefix).
use Rattle.std.specs.Prelude.{ℕ, List, Option, option_and_then, slice_get}
use Rattle.std.specs.List.{All, flat_map}
use Rattle.mcv_config.specs.ConfigValue.{AreAliases}
use Rattle.mcv_pools.specs.Table.{IsOneToOne}
use Rattle.mcv_route.specs.Routes.{RouteEntry, RoutesValue}

-- the first routing prefix that selects the route of this number, where there is such a route
abbrev pub first_alias : RoutesValue → ℕ → Option (List ℕ)
first_alias r number = option_and_then (λ e. slice_get e.aliases 0) (slice_get r.entries number)

-- the routing prefixes of all routes, in the order of the routes
abbrev pub all_aliases : List RouteEntry → List (List ℕ)
all_aliases entries = flat_map (λ e. e.aliases) entries

-- each route has one routing prefix or more, and none comes twice among those of all routes
pub record AreSelected (entries : List RouteEntry) : Type 0 where
  pub each : All (λ e. AreAliases e.aliases) entries
  pub apart : IsOneToOne (all_aliases entries)
