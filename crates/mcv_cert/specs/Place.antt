-- Where a leaf is, and in which order leaves come (own).
use Rattle.std.specs.Prelude.{ℕ, List}
use Rattle.std.specs.Cmp.Lexicographic.{slice_cmp}
use Rattle.std.specs.Ordering.{nat_cmp, ordering_then}
use Rattle.std.specs.declared.cmp.Ordering.{Ordering}
use Rattle.mcv_cert.specs.declared.place.Place.{Place}

-- what a block is of: the rests of a class of a route, with a delete in one era and a get in another
pub record SpotValue : Type 0 where
  pub route : ℕ
  pub class : List ℕ
  pub era : ℕ
  pub get_era : ℕ

-- where a leaf is: at which spot, and at which position in the route's tree
pub record PlaceValue : Type 0 where
  pub spot : SpotValue
  pub leaf : List ℕ

-- what the code's value means
abbrev pub place_of : Place → PlaceValue
place_of p = record { spot = record { route = p.route; class = p.class.items; era = p.era; get_era = p.get_era }; leaf = p.leaf }

-- ---- order

-- lists of numbers, a prefix before its longer ones
abbrev pub list_cmp : List ℕ → List ℕ → Ordering
list_cmp = slice_cmp nat_cmp

-- by route, class (bytes), era of the delete and era of the get
abbrev pub spot_cmp : SpotValue → SpotValue → Ordering
spot_cmp s t = ordering_then (ordering_then (ordering_then (nat_cmp s.route t.route) (list_cmp s.class t.class)) (nat_cmp s.era t.era)) (nat_cmp s.get_era t.get_era)

-- by spot, then by leaf
unfoldable pub place_cmp : PlaceValue → PlaceValue → Ordering
place_cmp p q = ordering_then (spot_cmp p.spot q.spot) (list_cmp p.leaf q.leaf)
