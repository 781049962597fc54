-- What was made of the sets of a spot was made of its block, and its legs are sized.
use Rattle.std.proofs.Common.{◌≡◌, ◌<◌, ◌≤◌, ℕ, List, [], ◌∷◌, get_or, Some, sym, subst}
use Rattle.std.specs.List.{Contains}
use Rattle.std.proofs.lemmas.Option.{get_or_from_slice_get, slice_get_within}
use Rattle.mcv_cert.specs.Pair.{PairValue}
use Rattle.mcv_judge.specs.Reason.{LegValue}
use Rattle.mcv_route.specs.Places.{pool_at_position}
use Rattle.mcv_route.specs.Routes.{IsSoundRoutes, RouteEntry, RoutesValue}
use Rattle.mcv_route.specs.Tree.{Tree}
use Rattle.mcv_symbolic.specs.CoveredRoutes.{sizes_of}
use Rattle.mcv_pairs.specs.Gaps.{IsSized}
use Rattle.mcv_blocks.specs.Blocks.{AreLeavesAt, IsAcknowledgedAt, pool_for}
use Rattle.mcv_blocks.specs.Sets.{SetsValue}
use Rattle.mcv_blocks.specs.SetsInEras.{AreSetsNear, AreSetsOf}
use Rattle.mcv_blocks.specs.Spots.{in_eras, spot_in}
use Rattle.mcv_blocks.specs.declared.sliding.DeleteEra.{DeleteEra}
use Rattle.mcv_blocks.specs.declared.sliding.SlidingSets.{SlidingSets}
use Rattle.mcv_blocks.proofs.PoolSizes.{entry_sized}
use Rattle.mcv_blocks.proofs.BlockOfSets.{block_is_there, tree_of}
use Rattle.mcv_certify.specs.BlockSteps.{AddsFor, AddsWith, AreLegsSized, ReportsGapAt, ReportsGapWith}
use Rattle.mcv_certify.specs.declared.gap.Gap.{Gap}
use Rattle.mcv_certify.proofs.SpotBySpot.{adds_one}

-- leaves of the tree of a sound route
legs_sized : (r : RoutesValue) → IsSoundRoutes r → (e : RouteEntry) → Contains r.entries e → (t : Tree) → e.tree ≡ t → (P : List ℕ → Type 0) (legs : List LegValue) → AreLeavesAt t P legs → IsSized legs
legs_sized r sound e there t root P legs are = (
  sizes_of r,
  λ k d low.
      let l = get_or legs k d in
      let pool : pool_at_position e.tree l.position ≡ Some (pool_for l) = subst (λ u. pool_at_position u l.position ≡ Some (pool_for l)) (sym root) (are.pools k d low) in
      sym (entry_sized r e sound there l.position (pool_for l) pool).1,
)

module _ (r : RoutesValue) (d : DeleteEra) (sets : SlidingSets) (near : AreSetsNear r d sets) (get_era : ℕ) (first : d.near.first ≤ get_era) (end : get_era < d.near.end) (s g : SetsValue) (are : AreSetsOf r d.class.now d.era s) (reads : AreSetsOf r d.class.now get_era g) where
  -- its pairs are those for the spot
  pub adds_with : (old new : List PairValue) → AddsWith s g (spot_in d.class.now d.era get_era) old new → AddsFor r (in_eras d.class.now d.era get_era ∷ []) old new
  adds_with old new h = adds_one r (in_eras d.class.now d.era get_era) h.block old new (block_is_there r d.class.now near.class d.era get_era (near.near.near get_era first end) s g are reads h.block h.is) h.adds h.picked

  -- and its gap is that at the spot
  pub reports_with : (f : Gap) → ReportsGapWith s g (spot_in d.class.now d.era get_era) f → ReportsGapAt r (in_eras d.class.now d.era get_era) f
  reports_with f h = record { block = h.block; block_is = block_is_there r d.class.now near.class d.era get_era (near.near.near get_era first end) s g are reads h.block h.is; reports = h.reports }

-- the legs of sets of sound routes
pub sets_sized : (r : RoutesValue) (d : DeleteEra) (sets : SlidingSets) → AreSetsNear r d sets → (s : SetsValue) → AreSetsOf r d.class.now d.era s → IsSoundRoutes r → AreLegsSized s
sets_sized r d sets near s are sound legs leaves =
    let c = d.class.now in
    let e = near.class.entry in
    let there : Contains r.entries e = (c.route, slice_get_within r.entries c.route e near.class.numbered, get_or_from_slice_get r.entries c.route e e near.class.numbered) in
    legs_sized r sound e there s.tree (tree_of r c near.class s.tree are.tree) (IsAcknowledgedAt s.tree s.rest s.since) legs leaves
