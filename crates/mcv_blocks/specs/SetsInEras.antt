-- The sets of a class in the eras near that of a delete: how the code keeps them. Only private contracts cite this.
use Rattle.std.specs.Prelude.{◌≡◌, ◌≤◌, ◌+◌, ℕ, List, Some, length, option_map, slice_get}
use Rattle.mcv_route.specs.Eras.{AreNearEras, HasEra, IsEraOf}
use Rattle.mcv_route.specs.Routes.{RouteEntry, RoutesValue}
use Rattle.mcv_blocks.specs.Places.{IsRouteClass}
use Rattle.mcv_blocks.specs.Sets.{SetsValue}
use Rattle.mcv_blocks.specs.declared.classes.RouteClass.{RouteClass}
use Rattle.mcv_blocks.specs.declared.sliding.DeleteEra.{DeleteEra}
use Rattle.mcv_blocks.specs.declared.sliding.SlidingSets.{SlidingSets}

-- the sets are those of a class of the routes in an era: of the tree of its route, its member and the break that opened the era
pub record AreSetsOf (r : RoutesValue) (c : RouteClass) (era : ℕ) (s : SetsValue) : Type 0 where
  pub tree : Some s.tree ≡ option_map (λ (e : RouteEntry). e.tree) (slice_get r.entries c.route)
  pub member : Some s.rest ≡ c.class.member
  pub opened : HasEra r era → IsEraOf r era s.since

-- they are those of the eras from one on
abbrev pub AreSetsFrom : RoutesValue → RouteClass → (first : ℕ) → List SetsValue → Type 0
AreSetsFrom r c first sets = (k : ℕ) (s : SetsValue) → slice_get sets k ≡ Some s → AreSetsOf r c (first + k) s

-- the class is one of the routes, and the sets are those of it in the eras near the delete's, or more of them
pub record AreSetsNear (r : RoutesValue) (d : DeleteEra) (s : SlidingSets) : Type 0 where
  pub class : IsRouteClass r d.class.now
  pub near : AreNearEras r r.window d.era d.near.first d.near.end
  pub sets : AreSetsFrom r d.class.now s.first s.sets.items
  pub first : s.first ≡ d.near.first
  pub end : d.near.end ≤ d.near.first + length s.sets.items
