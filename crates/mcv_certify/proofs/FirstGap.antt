-- The gap that is reported is the first of all.
use Rattle.std.proofs.Common.{◌≡◌, ◌<◌, ℕ, List, ◌∷◌, length, Some, inl, inr, refl, sym, ◌∙◌, subst}
use Rattle.std.specs.List.{All, Contains}
use Rattle.std.specs.declared.cmp.Ordering.TheVariants.{Less}
use Rattle.std.proofs.lemmas.List.Elements.{All-contains, All-from_recursion, Contains-append_cases}
use Rattle.std.proofs.lemmas.Option.{get_or_from_slice_get, slice_get_within}
use Rattle.mcv_cert.specs.Pair.{PlaceValue, index_cmp, spot_cmp, place_of}
use Rattle.mcv_judge.specs.Reason.{BlockValue, HasReason, HasReasons, LegValue}
use Rattle.mcv_route.specs.Routes.{RoutesValue}
use Rattle.mcv_route.specs.declared.eras.NearEras.{NearEras}
use Rattle.mcv_blocks.specs.Blocks.{IsBlockOf}
use Rattle.mcv_blocks.specs.Places.{AreRouteClasses}
use Rattle.mcv_blocks.specs.Spots.{AreClassesInEras, AreNears, IsBlockFor, ClassInEras, classes_in_eras, in_eras, spot_of}
use Rattle.mcv_blocks.specs.declared.classes.RouteClass.{RouteClass}
use Rattle.mcv_blocks.proofs.BlocksOfSpots.{class-there, in-spots, same-cmp, spots_are, spots_behind}
use Rattle.mcv_route.proofs.RisingLists.{first_or_behind}
use Rattle.mcv_blocks.proofs.OneListOfBlocks.{one_block}
use Rattle.mcv_certify.specs.Gap.{IsFirstGap, IsGap}
use Rattle.mcv_certify.specs.BlockSteps.{ReportsGapIn}
use Rattle.mcv_certify.specs.declared.gap.Gap.{Gap}
use Rattle.mcv_certify.proofs.BlockGap.{before_gap}
use Rattle.mcv_certify.proofs.Lists.{zip_there}
use Rattle.mcv_certify.proofs.Places.{in_two_blocks, not_before, place_in}

module _ (r : RoutesValue) (cs : List RouteClass) (xs : List NearEras) (classes : AreRouteClasses r cs) (near : AreNears r xs) where
  -- the class and the eras of a block
  class_of : (b : BlockValue) → IsBlockOf r b → (s : ClassInEras) × Contains (classes_in_eras cs xs) s × IsBlockFor r s b
  class_of b own =
      let c : RouteClass = record { route = b.spot.route; class = record { word = b.spot.class; member = Some own.member } } in
      let x = near.all b.spot.era (own.since, own.spot.opened) in
      let within = (near.each b.spot.era x.0 x.1).all b.spot.get_era (own.since, own.read, own.spot.opened, own.spot.read_opened, own.spot.near) in (
        in_eras c b.spot.era b.spot.get_era,
        in-spots cs xs b.spot.era b.spot.get_era x.0 c x.1 within.0 within.1 (classes.all c (class-there r b.spot own.tree own.member own.since own.read own.spot)),
        record { spot = refl; is = own },
      )

  same_block : (s : ClassInEras) (b c : BlockValue) → IsBlockFor r s b → IsBlockFor r s c → b ≡ c
  same_block s b c h g = one_block r b c h.is g.is (h.spot ∙ sym g.spot)

  module _ (f : Gap) (t : ReportsGapIn r (classes_in_eras cs xs) f) where
    abbrev here : BlockValue
    here = t.reports.block

    abbrev leaf : LegValue
    leaf = t.reports.reports.gap.leaf

    pub own : IsGap r (place_of f.place) f.at f.server.0
    own =
        let reported = t.reports.reports in
        record {
          block = here;
          leaf = leaf;
          block_is = t.reports.block_is.is;
          readable = (reported.number, slice_get_within here.readable reported.number leaf reported.gap.numbered, get_or_from_slice_get here.readable reported.number leaf leaf reported.gap.numbered);
          placed = reported.placed;
          has = reported.has;
          unanswered = reported.gap.first.gap;
        }

    -- in the reported block
    in_own : (b : BlockValue) → here ≡ b → (l : LegValue) (j : ℕ) → Contains b.readable l → j < length l.servers → index_cmp (place_in b l) j (place_in here leaf) f.at ≡ Less → HasReason b l j
    in_own b same =
        subst (λ (c : BlockValue). (l : LegValue) (j : ℕ) → Contains c.readable l → j < length l.servers → index_cmp (place_in c l) j (place_in here leaf) f.at ≡ Less → HasReason c l j) same
        (λ l j has low less. before_gap here t.reports.block_is.is.has.readable.rising t.reports.reports.number f.at t.reports.reports.gap l j has low less)

    -- in a block before it
    in_before : (b : BlockValue) (s : ClassInEras) → Contains t.before s → IsBlockFor r s b → (l : LegValue) (j : ℕ) → Contains b.readable l → j < length l.servers → HasReason b l j
    in_before b s at block_is l j has low =
        let c = zip_there (IsBlockFor r) t.before t.blocks s t.blocks_are at in
        let reasons : All (HasReasons c.0) c.0.readable = All-contains (λ d. All (HasReasons d) d.readable) t.blocks c.0 t.reasons c.1 in
        let same : c.0 ≡ b = same_block s c.0 b c.2 block_is in
        let own_reasons : All (HasReasons b) b.readable = subst (λ (d : BlockValue). All (HasReasons d) d.readable) same reasons in
        All-contains (HasReasons b) b.readable l own_reasons has j low

    -- a block behind it comes behind
    in_behind : (b : BlockValue) (s : ClassInEras) → Contains t.behind s → IsBlockFor r s b → spot_cmp here.spot b.spot ≡ Less
    in_behind b s at block_is =
        let rise = spots_behind r t.before (t.spot ∷ t.behind) (subst (AreClassesInEras r) t.parts (spots_are r cs xs classes near)) in
        let later : spot_cmp (spot_of t.spot) (spot_of s) ≡ Less = All-contains (λ u. spot_cmp (spot_of t.spot) (spot_of u) ≡ Less) t.behind s (All-from_recursion (λ u. spot_cmp (spot_of t.spot) (spot_of u) ≡ Less) t.behind rise.1) at in
        same-cmp r t.spot s here b t.reports.block_is block_is ∙ later

    none_before : (s : PlaceValue) (j x : ℕ) → index_cmp s j (place_of f.place) f.at ≡ Less → IsGap r s j x → ⊥
    none_before s j x less g =
        let b = g.block in
        let at = class_of b g.block_is in
        let low = slice_get_within g.leaf.servers j x g.has in
        let before : index_cmp (place_in b g.leaf) j (place_in here leaf) f.at ≡ Less =
        subst (λ p. index_cmp p j (place_in here leaf) f.at ≡ Less) (sym g.placed) (subst (λ p. index_cmp s j p f.at ≡ Less) (sym t.reports.reports.placed) less) in
        elim (Contains-append_cases t.before (t.spot ∷ t.behind) at.0 (subst (λ ss. Contains ss at.0) t.parts at.1)) [
          | inl h ↦ g.unanswered (in_before b at.0 h at.2 g.leaf j g.readable low)
          | inr h ↦ elim (first_or_behind t.spot t.behind at.0 h) [
            | inl is ↦
                let same = same_block at.0 here b (subst (λ u. IsBlockFor r u here) is t.reports.block_is) at.2 in
                g.unanswered (in_own b same g.leaf j g.readable low before)
            | inr later ↦ not_before (place_in b g.leaf) j (place_in here leaf) f.at before (in_two_blocks here b leaf g.leaf (in_behind b at.0 later at.2))
          ]
        ]

    pub first_gap : IsFirstGap r (place_of f.place) f.at f.server.0
    first_gap = record { gap = own; first = λ s j x less g. none_before s j x less g }
