-- The classes of all routes (own).
use Rattle.std.specs.Prelude.{◌≡◌, ℕ, List, Some, slice_get}
use Rattle.std.specs.List.{All, AllPairs, Contains}
use Rattle.std.specs.declared.cmp.Ordering.{Ordering}
use Rattle.std.specs.declared.cmp.Ordering.TheVariants.{Less}
use Rattle.std.specs.Ordering.{nat_cmp, ordering_then}
use Rattle.mcv_cert.specs.Pair.{list_cmp}
use Rattle.mcv_classes.specs.Class.{ClassValue, IsListed}
use Rattle.mcv_classes.specs.Words.{class_words}
use Rattle.mcv_route.specs.Routes.{RouteEntry, RoutesValue}
use Rattle.mcv_blocks.specs.declared.classes.RouteClass.{RouteClass}

-- the routes have a route of this number, and this is one of its classes, with a member
pub record IsRouteClass (r : RoutesValue) (c : RouteClass) : Type 0 where
  pub entry : RouteEntry
  pub numbered : slice_get r.entries c.route ≡ Some entry
  pub listed : IsListed (class_words entry.tree) c.class

-- the class, of the route of this number
abbrev pub of_route : ℕ → ClassValue → RouteClass
of_route number c = record { route = number; class = c }

-- by route, then by word (bytes)
abbrev pub class_cmp : RouteClass → RouteClass → Ordering
class_cmp c d = ordering_then (nat_cmp c.route d.route) (list_cmp c.class.word d.class.word)

-- all classes of all routes that have a member, by route and word, each once
pub record AreRouteClasses (r : RoutesValue) (cs : List RouteClass) : Type 0 where
  pub rising : AllPairs (λ c d. class_cmp c d ≡ Less) cs
  pub only : All (IsRouteClass r) cs
  pub all : (c : RouteClass) → IsRouteClass r c → Contains cs c
