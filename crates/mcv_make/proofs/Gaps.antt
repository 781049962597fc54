-- What a gap says of its place: the route and the class are there, and the leaf can be read.
use Rattle.std.proofs.Common.{◌≡◌, ℕ, List, Option, Some, refl, sym, ap, ◌∙◌, subst}
use Rattle.std.specs.Prelude.{slice_get}
use Rattle.std.specs.List.{Contains}
use Rattle.std.proofs.lemmas.Option.{same_Some}
use Rattle.mcv_cert.specs.Pair.{PlaceValue, SpotValue, place_of}
use Rattle.mcv_classes.specs.Class.{IsMember}
use Rattle.mcv_classes.specs.Words.{class_words}
use Rattle.mcv_judge.specs.Reason.{BlockValue, LegValue}
use Rattle.mcv_blocks.specs.Blocks.{IsBlockAt}
use Rattle.mcv_route.specs.Eras.{HasEra, IsEraOf, IsNear}
use Rattle.mcv_route.proofs.NearBreaks.{number_near}
use Rattle.mcv_blocks.proofs.OneListOfBlocks.{block_has, has_property}
use Rattle.mcv_certify.specs.Gap.{IsGap}
use Rattle.mcv_certify.specs.declared.gap.Gap.{Gap}
use Rattle.mcv_route.specs.Routes.{RouteEntry, RoutesValue}
use Rattle.mcv_symbolic.specs.JustifiedRoutes.{IsReadableAt}
use Rattle.mcv_witness.specs.Finding.{FindingValue}
use Rattle.mcv_make.specs.Place.{IsAtGap}

-- what holds at the gap's place and index, of its server, holds at those of a finding that is there
pub at-finding : (P : PlaceValue → ℕ → ℕ → Type 0) (g : Gap) (f : FindingValue) → IsAtGap g f → P (place_of g.place) g.at g.server.0 → P f.place f.at f.server
at-finding P g f at h =
    subst (P f.place f.at) (sym at.server) (subst (λ j. P f.place j g.server.0) (sym at.at) (subst (λ p. P p g.at g.server.0) (sym at.place) h))

module _ (r : RoutesValue) (g : Gap) (gap : IsGap r (place_of g.place) g.at g.server.0) where
  abbrev b : BlockValue
  b = gap.block

  abbrev leaf : LegValue
  leaf = gap.leaf

  at-spot : b.spot ≡ (place_of g.place).spot
  at-spot = ap (λ (p : PlaceValue). p.spot) gap.placed

  at-leaf : leaf.position ≡ g.place.leaf
  at-leaf = ap (λ (p : PlaceValue). p.leaf) gap.placed

  -- the entry of the gap's route
  abbrev pub entry : RouteEntry
  entry = gap.block_is.spot.entry

  pub numbered : slice_get r.entries g.place.route ≡ Some entry
  numbered = subst (λ (s : SpotValue). slice_get r.entries s.route ≡ Some entry) at-spot gap.block_is.spot.numbered

  -- the gap's class is one of its route
  pub listed : (e : RouteEntry) → slice_get r.entries g.place.route ≡ Some e → Contains (class_words e.tree) g.place.class.items
  listed e here =
      let there = gap.block_is.spot in
      let same : entry ≡ e = same_Some entry e (sym numbered ∙ here) in
      subst (λ x. Contains (class_words x.tree) g.place.class.items) same (subst (λ t. Contains (class_words t) g.place.class.items) (sym there.has_tree) (subst (λ (s : SpotValue). Contains (class_words gap.block_is.tree) s.class) at-spot there.listed))

  pub has_era : HasEra r g.place.era
  has_era = (gap.block_is.since, subst (λ (s : SpotValue). IsEraOf r s.era gap.block_is.since) at-spot gap.block_is.spot.opened)

  pub has_get_era : HasEra r g.place.get_era
  has_get_era = (gap.block_is.read, subst (λ (s : SpotValue). IsEraOf r s.get_era gap.block_is.read) at-spot gap.block_is.spot.read_opened)

  -- the eras of the gap are near
  pub near : (since read : Option ℕ) → IsEraOf r g.place.era since → IsEraOf r g.place.get_era read → IsNear r r.window since read
  near since read opened read_opened =
      let own = subst (λ (s : SpotValue). IsEraOf r s.era gap.block_is.since) at-spot gap.block_is.spot.opened in
      let own_read = subst (λ (s : SpotValue). IsEraOf r s.get_era gap.block_is.read) at-spot gap.block_is.spot.read_opened in
      number_near r r.window g.place.era g.place.get_era since read opened read_opened (gap.block_is.since, gap.block_is.read, own, own_read, gap.block_is.spot.near)

  module _ (e : RouteEntry) (rest : List ℕ) (since read : Option ℕ) (here : slice_get r.entries g.place.route ≡ Some e) (listed : Contains (class_words e.tree) g.place.class.items) (member : IsMember (class_words e.tree) g.place.class.items (Some rest)) (opened : IsEraOf r g.place.era since) (read_opened : IsEraOf r g.place.get_era read) where
    block : IsBlockAt e.tree rest since read b
    block =
        block_has r (place_of g.place).spot e.tree rest since read (record { entry = e; numbered = here; has_tree = refl; listed = listed; has_member = member; opened = opened; read_opened = read_opened; near = near since read opened read_opened }) b
        gap.block_is at-spot

    -- the leaf can be read at the member
    pub readable : IsReadableAt e.tree rest read g.place.leaf
    readable = subst (IsReadableAt e.tree rest read) at-leaf (has_property e.tree (IsReadableAt e.tree rest read) b.readable block.readable leaf gap.readable)
