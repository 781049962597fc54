-- How the code goes from block to block: class by class, and in each from era to era. Only private contracts cite this.
use Rattle.std.specs.Prelude.{◌≡◌, ◌↔◌, ℕ, zero, suc, ◌-◌, false, List, [], ◌∷◌, ◌++◌, Some, ⊤, slice_get}
use Rattle.std.specs.List.{AllByRecursion}
use Rattle.std.specs.declared.cmp.Ordering.TheVariants.{Less}
use Rattle.mcv_cert.specs.Pair.{SpotValue, spot_cmp}
use Rattle.mcv_judge.specs.Reason.{BlockValue}
use Rattle.mcv_route.specs.Routes.{RoutesValue}
use Rattle.mcv_route.specs.Eras.{AreNearEras, HasEra, IsNearEra}
use Rattle.mcv_route.specs.declared.eras.NearEras.{NearEras}
use Rattle.mcv_symbolic.specs.JustifiedRoutes.{IsNeverAcknowledged, IsReadableAt}
use Rattle.mcv_blocks.specs.Blocks.{AreLeavesAt, IsAcknowledgedAt, IsBlockOf}
use Rattle.mcv_blocks.specs.Places.{IsRouteClass}
use Rattle.mcv_blocks.specs.Sets.{SetsValue}
use Rattle.mcv_blocks.specs.declared.classes.RouteClass.{RouteClass}

-- a class of a route, with a delete in one era and a get in another
pub record ClassInEras : Type 0 where
  pub class : RouteClass
  pub era : ℕ
  pub get_era : ℕ

abbrev pub in_eras : RouteClass → (era get_era : ℕ) → ClassInEras
in_eras c era get_era = record { class = c; era = era; get_era = get_era }

-- the spot of a class in two eras: a block is there
abbrev pub spot_in : RouteClass → (era get_era : ℕ) → SpotValue
spot_in c era get_era = record { route = c.route; class = c.class.word; era = era; get_era = get_era }

abbrev pub spot_of : ClassInEras → SpotValue
spot_of s = spot_in s.class s.era s.get_era

-- those of a class in an era, with gets in n eras from one on
abbrev pub gets_from : RouteClass → (era get_era n : ℕ) → List ClassInEras
gets_from c era get_era zero = []
gets_from c era get_era (suc n) = in_eras c era get_era ∷ gets_from c era (suc get_era) n

-- those of a class in the eras from one on, each with gets in the eras that are near it
abbrev pub eras_near : RouteClass → (era : ℕ) → List NearEras → List ClassInEras
eras_near c era [] = []
eras_near c era (x ∷ xs) = gets_from c era x.first (x.end - x.first) ++ eras_near c (suc era) xs

-- those of all these classes
abbrev pub classes_in_eras : List RouteClass → List NearEras → List ClassInEras
classes_in_eras [] xs = []
classes_in_eras (c ∷ cs) xs = eras_near c 0 xs ++ classes_in_eras cs xs

-- of each era of the routes, in their order, the eras that are near it
pub record AreNears (r : RoutesValue) (xs : List NearEras) : Type 0 where
  pub each : (era : ℕ) (x : NearEras) → slice_get xs era ≡ Some x → AreNearEras r r.window era x.first x.end
  pub all : (era : ℕ) → HasEra r era → (x : NearEras) × (slice_get xs era ≡ Some x)

abbrev pub IsClassInEras : RoutesValue → ClassInEras → Type 0
IsClassInEras r s = IsRouteClass r s.class × IsNearEra r r.window s.era s.get_era

-- classes of the routes in eras that are near, the spot of each before those of all later ones
abbrev pub AreClassesInEras : RoutesValue → List ClassInEras → Type 0
AreClassesInEras r [] = ⊤
AreClassesInEras r (s ∷ ss) = IsClassInEras r s × AllByRecursion (λ t. spot_cmp (spot_of s) (spot_of t) ≡ Less) ss × AreClassesInEras r ss

-- the block that is at the spot
pub record IsBlockFor (r : RoutesValue) (s : ClassInEras) (b : BlockValue) : Type 0 where
  pub spot : b.spot ≡ spot_of s
  pub is : IsBlockOf r b

-- the block is at this spot, and has of deletes what the one sets have, and of gets what the others have
pub record IsBlockWith (s g : SetsValue) (at : SpotValue) (b : BlockValue) : Type 0 where
  pub spot : b.spot ≡ at
  pub readable : AreLeavesAt g.tree (IsReadableAt g.tree g.rest g.since) b.readable
  pub acknowledged : AreLeavesAt s.tree (IsAcknowledgedAt s.tree s.rest s.since) b.acknowledged
  pub never : (b.can_be_acknowledged ≡ false) ↔ IsNeverAcknowledged s.tree s.rest s.since
