-- The block that sets of two eras make is at its spot.
use Rattle.std.proofs.Common.{◌≡◌, ◌↔◌, ℕ, false, List, Option, Some, option_map, sym, ap, ◌∙◌, subst}
use Rattle.std.specs.Prelude.{slice_get}
use Rattle.std.specs.List.{Contains}
use Rattle.std.proofs.lemmas.Option.{same_Some}
use Rattle.mcv_classes.specs.Class.{IsMember}
use Rattle.mcv_classes.specs.Words.{class_words}
use Rattle.mcv_cert.specs.Pair.{SpotValue}
use Rattle.mcv_judge.specs.Reason.{BlockValue, LegValue}
use Rattle.mcv_route.proofs.NearBreaks.{number_near}
use Rattle.mcv_route.specs.Routes.{RouteEntry, RoutesValue}
use Rattle.mcv_route.specs.Tree.{Tree}
use Rattle.mcv_symbolic.specs.JustifiedRoutes.{IsNeverAcknowledged, IsReadableAt}
use Rattle.mcv_route.specs.Eras.{IsEraOf, IsNear, IsNearEra}
use Rattle.mcv_blocks.specs.Blocks.{AreLeavesAt, IsAcknowledgedAt, IsBlockAt, IsSpotOf}
use Rattle.mcv_blocks.specs.Places.{IsRouteClass}
use Rattle.mcv_blocks.specs.Sets.{SetsValue}
use Rattle.mcv_blocks.specs.SetsInEras.{AreSetsOf}
use Rattle.mcv_blocks.specs.Spots.{IsBlockFor, IsBlockWith, in_eras, spot_in}
use Rattle.mcv_blocks.specs.declared.classes.RouteClass.{RouteClass}

-- the block of these sets, by what was read off them
pub block_with : (s g : SetsValue) (at : SpotValue) (b : BlockValue) (readable acknowledged : List LegValue) → b.spot ≡ at → b.readable ≡ readable → b.acknowledged ≡ acknowledged
    → AreLeavesAt g.tree (IsReadableAt g.tree g.rest g.since) readable → AreLeavesAt s.tree (IsAcknowledgedAt s.tree s.rest s.since) acknowledged → (b.can_be_acknowledged ≡ false) ↔ IsNeverAcknowledged s.tree s.rest s.since → IsBlockWith s g at b
block_with s g at b readable acknowledged spot same_readable same_acknowledged reads acknowledges never = record {
  spot = spot;
  readable = subst (AreLeavesAt g.tree (IsReadableAt g.tree g.rest g.since)) (sym same_readable) reads;
  acknowledged = subst (AreLeavesAt s.tree (IsAcknowledgedAt s.tree s.rest s.since)) (sym same_acknowledged) acknowledges;
  never = never;
}

-- the tree of the class's route
pub tree_of : (r : RoutesValue) (c : RouteClass) (is : IsRouteClass r c) (t : Tree) → Some t ≡ option_map (λ (e : RouteEntry). e.tree) (slice_get r.entries c.route) → is.entry.tree ≡ t
tree_of r c is t tree = same_Some is.entry.tree t (sym (tree ∙ ap (option_map (λ (e : RouteEntry). e.tree)) is.numbered))

module _ (r : RoutesValue) (c : RouteClass) (is : IsRouteClass r c) (era get_era : ℕ) (near : IsNearEra r r.window era get_era) (s g : SetsValue) (are : AreSetsOf r c era s) (reads : AreSetsOf r c get_era g) where
  same_tree : g.tree ≡ s.tree
  same_tree = sym (tree_of r c is g.tree reads.tree) ∙ tree_of r c is s.tree are.tree

  same_rest : g.rest ≡ s.rest
  same_rest = same_Some g.rest s.rest (reads.member ∙ sym are.member)

  opened : IsEraOf r era s.since
  opened = are.opened (near.0, near.2)

  read_opened : IsEraOf r get_era g.since
  read_opened = reads.opened (near.1, near.3)

  is_near : IsNear r r.window s.since g.since
  is_near = number_near r r.window era get_era s.since g.since opened read_opened near

  has : (b : BlockValue) → IsBlockWith s g (spot_in c era get_era) b → IsBlockAt s.tree s.rest s.since g.since b
  has b own = record {
    readable = subst (λ (t : Tree). AreLeavesAt t (IsReadableAt t s.rest g.since) b.readable) same_tree (subst (λ (m : List ℕ). AreLeavesAt g.tree (IsReadableAt g.tree m g.since) b.readable) same_rest own.readable);
    acknowledged = own.acknowledged;
    never = own.never;
  }

  there : IsSpotOf r (spot_in c era get_era) s.tree s.rest s.since g.since
  there =
      let tree : is.entry.tree ≡ s.tree = tree_of r c is s.tree are.tree in
      record {
        entry = is.entry;
        numbered = is.numbered;
        has_tree = tree;
        listed = subst (λ u. Contains (class_words u) c.class.word) tree is.listed.word;
        has_member = subst (λ u. IsMember (class_words u) c.class.word (Some s.rest)) tree (subst (IsMember (class_words is.entry.tree) c.class.word) (sym are.member) is.listed.member);
        opened = opened;
        read_opened = read_opened;
        near = is_near;
      }

  -- the block of the sets of the two eras
  pub block_is_there : (b : BlockValue) → IsBlockWith s g (spot_in c era get_era) b → IsBlockFor r (in_eras c era get_era) b
  block_is_there b own = record {
    spot = own.spot;
    is = record { tree = s.tree; member = s.rest; since = s.since; read = g.since; spot = subst (λ p. IsSpotOf r p s.tree s.rest s.since g.since) (sym own.spot) there; has = has b own };
  }
