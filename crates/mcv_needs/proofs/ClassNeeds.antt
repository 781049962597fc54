-- What a class needs, by its blocks.
use Rattle.std.proofs.Common.{◌≡◌, ◌<◌, ◌++◌, ◌∙◌, ℕ, Bool, false, true, List, Option, Some, None, ap, length, sym, subst}
use Rattle.std.specs.Prelude.{is_some, option_map, slice_get, slice_index}
use Rattle.std.specs.List.{All}
use Rattle.std.proofs.lemmas.List.Elements.{All-contains}
use Rattle.mcv_blocks.specs.Blocks.{AreLeavesAt, IsAcknowledgedAt, IsBlockOf, pool_for}
use Rattle.mcv_route.specs.Places.{pool_at_position}
use Rattle.mcv_blocks.specs.Places.{IsRouteClass}
use Rattle.mcv_blocks.specs.declared.classes.RouteClass.{RouteClass}
use Rattle.mcv_blocks.proofs.OneListOfBlocks.{pool_of_leg}
use Rattle.mcv_blocks.proofs.PoolSizes.{entry_sized}
use Rattle.mcv_gaps.specs.Gaps.{AreAllSizedBy, AreLeastFor, AreSizedBy, HaveGap, IsMissed, WantedValue}
use Rattle.mcv_gaps.proofs.Mapped.{from}
use Rattle.mcv_gaps.proofs.Needed.{entry, of_each}
use Rattle.mcv_pools.specs.Symbol.{SymbolValue}
use Rattle.mcv_judge.specs.Reason.{BlockValue, LegValue}
use Rattle.mcv_picks.specs.Reasons.{AreSized}
use Rattle.mcv_route.specs.Routes.{IsSoundRoutes, RouteEntry, RoutesValue}
use Rattle.mcv_route.specs.Tree.{Tree}
use Rattle.mcv_symbolic.specs.CoveredRoutes.{sizes_of}
use Rattle.mcv_symbolic.specs.JustifiedRoutes.{IsReadableAt}
use Rattle.mcv_needs.specs.Needs.{AreLeast, HasGapWith}
use Rattle.mcv_needs.specs.Wanted.{AreWantedOf, IsAcknowledgedBlock}

-- each symbol has an index
pub positive : (r : RoutesValue) → All (λ s. 0 < s.n) r.symbols → All (λ n. 0 < n) (sizes_of r)
positive r some = of_each (λ n. 0 < n) (sizes_of r) (λ k at.
    let m = from (λ (s : SymbolValue). s.n) r.symbols k at in
    subst (λ n. 0 < n) m.2 (All-contains (λ (s : SymbolValue). 0 < s.n) r.symbols m.0 some m.1))

-- a class of the routes has a route, and a member
pub no_route : (r : RoutesValue) (c : RouteClass) → None ≡ option_map (λ (e : RouteEntry). e.tree) (slice_get r.entries c.route) → IsRouteClass r c → ⊥
no_route r c none is = let there : ◌≡◌ {A = Option Tree} None (Some is.entry.tree) = none ∙ ap (option_map (λ (e : RouteEntry). e.tree)) is.numbered in cc

pub no_member : (r : RoutesValue) (c : RouteClass) → None ≡ c.class.member → IsRouteClass r c → ⊥
no_member r c none is = let there : ◌≡◌ {A = Bool} false true = ap is_some none ∙ is.listed.some in cc

module _ (r : RoutesValue) (sound : IsSoundRoutes r) where
  abbrev Sized : LegValue → Type 0
  Sized d = length d.servers ≡ slice_index (sizes_of r) d.symbol

  -- leaves of a block have as many servers as their symbols have indexes
  leaves_sized : (b : BlockValue) (is : IsBlockOf r b) (P : List ℕ → Type 0) (leaves : List LegValue) → AreLeavesAt is.tree P leaves → AreSized (sizes_of r) leaves
  leaves_sized b is P leaves are =
      let e = is.spot.entry in
      let at = entry r.entries b.spot.route e is.spot.numbered in
      of_each Sized leaves (λ d in_leaves.
      let there = pool_of_leg is.tree P leaves are d in_leaves in
      sym (subst (λ (t : Tree). (p : List ℕ) → pool_at_position t p ≡ Some (pool_for d) → slice_index (sizes_of r) d.symbol ≡ length d.servers) is.spot.has_tree
      (λ p h. (entry_sized r e sound at p (pool_for d) h).1) d.position there))

  module _ (c : RouteClass) (ws : List WantedValue) (are : AreWantedOf r c ws) where
    pub all_sized : All (λ n. 0 < n) (sizes_of r) → AreAllSizedBy (sizes_of r) ws
    all_sized positive = of_each (AreSizedBy (sizes_of r)) ws (λ w at. record {
      some = positive;
      readable = of_each Sized w.readable (λ leaf h.
          let l = are.only w at leaf h in
          All-contains Sized l.block.readable leaf (leaves_sized l.block l.is.is (IsReadableAt l.is.is.tree l.is.is.member l.is.is.read) l.block.readable l.is.is.has.readable) l.read);
      acknowledged = λ leaf h.
          let l = are.only w at leaf h in
          subst (AreSized (sizes_of r)) l.acknowledged (leaves_sized l.block l.is.is (IsAcknowledgedAt l.is.is.tree l.is.is.member l.is.is.since) l.block.acknowledged l.is.is.has.acknowledged);
    })

    to_gap : (legs : List LegValue) → HaveGap (sizes_of r) ws legs → HasGapWith r c.route c.class.word legs
    to_gap legs g =
        let l = are.only g.0 g.1 g.2.0 g.2.1 in
        record {
          block = l.block;
          is = l.is.is;
          of_route = l.is.route;
          of_class = l.is.word;
          gap = record { can = l.is.can; leaf = g.2.0; read = l.read; missed = subst (λ (ds : List LegValue). IsMissed (sizes_of r) (ds ++ legs) g.2.0) (sym l.acknowledged) g.2.2 };
        }

    from_gap : (legs : List LegValue) → HasGapWith r c.route c.class.word legs → HaveGap (sizes_of r) ws legs
    from_gap legs g =
        let a : IsAcknowledgedBlock r c g.block = record { is = g.is; route = g.of_route; word = g.of_class; can = g.gap.can } in
        let f = are.all g.block a in
        (f.0, f.1, (g.gap.leaf, f.2.readable g.gap.leaf g.gap.read, subst (λ (ds : List LegValue). IsMissed (sizes_of r) (ds ++ legs) g.gap.leaf) (sym f.2.acknowledged) g.gap.missed))

    -- legs that are least for what the deletes of the class leave are least for the class
    pub least_of : (legs : List LegValue) → AreLeastFor (sizes_of r) ws legs → AreLeast r c.route c.class.word legs
    least_of legs h = record { enough = λ g. h.enough (from_gap legs g); each = λ k lt. to_gap _ (h.each k lt) }
