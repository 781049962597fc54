-- The number of a route that is borrowed is one of the routes' numbers.
use Rattle.std.proofs.Common.{◌≡◌, ℕ, ◌<◌, length, Option, Some, None, option_map, refl, sym}
use Rattle.std.specs.Prelude.{slice_get}
use Rattle.std.proofs.lemmas.Option.{none-some, slice_get_within}
use Rattle.mcv_route.specs.Routes.{RouteEntry, RoutesValue}
use Rattle.mcv_route.specs.Tree.{Tree}

abbrev tree_of : RouteEntry → Tree
tree_of e = e.tree

route_at : (t : Tree) (x : Option RouteEntry) → Some t ≡ option_map tree_of x → (e : RouteEntry) × (x ≡ Some e)
route_at t None h = absurd (none-some t (sym h))
route_at t (Some e) h = (e, refl)

pub number_within : (r : RoutesValue) (n : ℕ) (t : Tree) → Some t ≡ option_map tree_of (slice_get r.entries n) → n < length r.entries
number_within r n t h = let at = route_at t (slice_get r.entries n) h in slice_get_within r.entries n at.0 at.1
