-- What is built of a gap breaks coverage.
use Rattle.std.proofs.Common.{◌≡◌, ◌<◌, ◌≤◌, ℕ, List, [], ◌∷◌, ◌++◌, length, Some, option_map, refl, sym, ap, ◌∙◌, subst, arith}
use Rattle.std.specs.Prelude.{slice_get, slice_index}
use Rattle.std.specs.List.{All, Contains}
use Rattle.std.proofs.lemmas.List.Elements.{All-contains}
use Rattle.std.proofs.lemmas.Option.{get_or_from_slice_get, same_Some, slice_get_within}
use Rattle.mcv_base.specs.Key.{IsRoutingPrefix, is_key_word, routed, slash}
use Rattle.mcv_base.specs.declared.operation.Op.TheVariants.{Delete}
use Rattle.mcv_base.specs.declared.reply.Outcome.TheVariants.{Good}
use Rattle.mcv_blocks.specs.Blocks.{IsBlockAt, IsSpotOf, pool_for}
use Rattle.mcv_blocks.proofs.PoolSizes.{AreSized, entry_sized}
use Rattle.mcv_blocks.proofs.OneListOfBlocks.{block_has, pool_of_leg}
use Rattle.mcv_cert.specs.Pair.{PlaceValue, SpotValue, place_of}
use Rattle.mcv_classes.proofs.Members.{members_are_inside}
use Rattle.mcv_config.specs.Aliases.{IsAlias, alias_limit}
use Rattle.mcv_config.specs.Entries.{depth_limit}
use Rattle.mcv_judge.specs.Reason.{BlockValue, LegValue}
use Rattle.mcv_certify.specs.Gap.{IsGap}
use Rattle.mcv_certify.specs.declared.gap.Gap.{Gap}
use Rattle.mcv_route.proofs.NearBreaks.{number_near}
use Rattle.mcv_route.specs.Eras.{IsEraOf, IsNear}
use Rattle.mcv_route.specs.Aliases.{AreSelected, first_alias}
use Rattle.mcv_route.specs.Limits.{AreWithinLimits, IsWithin}
use Rattle.mcv_route.specs.Outcomes.{History, IsChoice}
use Rattle.mcv_route.specs.Places.{pool_at_position, route_of_prefix}
use Rattle.mcv_route.specs.Routes.{RouteEntry, RoutesValue, IsSoundRoutes}
use Rattle.mcv_route.specs.Situation.{asked}
use Rattle.mcv_route.specs.Tree.{Pool, Tree}
use Rattle.mcv_route.proofs.FirstAlias.{is-alias, selects as selects-route}
use Rattle.mcv_rules.specs.Plans.{plan}
use Rattle.mcv_symbolic.specs.CoveredRoutes.{sizes_of}
use Rattle.mcv_symbolic.specs.JustifiedRoutes.{IsReadableAt}
use Rattle.mcv_witness.specs.Breaks.{BreaksCoverage, IsLeafOf, IsMissed, IsRead, IsAtPlace}
use Rattle.mcv_witness.specs.Finding.{FindingValue}
use Rattle.mcv_make.specs.FreeIndexes.{free_indexes}
use Rattle.mcv_symbolic.specs.ShownAnswers.{answers}
use Rattle.mcv_make.specs.Place.{IsAtGap}
use Rattle.mcv_make.specs.ShownFinding.{IsShownWith}
use Rattle.mcv_make.proofs.Breaks as gaps
use Rattle.mcv_make.proofs.Gaps.{at-finding}
use Rattle.mcv_make.proofs.KeyWord.{key-word}
use Rattle.mcv_make.proofs.DeleteOutcomes
use Rattle.mcv_make.proofs.GetOutcomes

nil-cons : (x : ℕ) (xs : List ℕ) → [] ≡ x ∷ xs → ⊥
nil-cons x xs e = cc

prefix-some : (p : List ℕ) → IsRoutingPrefix p → 0 < length p
prefix-some [] h = absurd (nil-cons slash (h.first ++ slash ∷ h.second ++ slash ∷ []) h.is)
prefix-some (x ∷ p) h = omega arith

module _ (r : RoutesValue) (sound : IsSoundRoutes r) (limits : AreWithinLimits r) (positive : All (λ n. 0 < n) (sizes_of r)) (f : FindingValue) (prefix : List ℕ) (gap : IsGap r f.place f.at f.server)
    (alias : IsAlias prefix) (short : length prefix ≤ alias_limit) (selects : route_of_prefix prefix r.entries ≡ Some f.place.spot.route) (built : IsShownWith r prefix f) where
  abbrev tree : Tree
  tree = built.entry.tree

  abbrev b : BlockValue
  b = gap.block

  abbrev leaf : LegValue
  leaf = gap.leaf

  at-leaf : leaf.position ≡ f.place.leaf
  at-leaf = ap (λ (p : PlaceValue). p.leaf) gap.placed

  there : Contains r.entries built.entry
  there = (f.place.spot.route, slice_get_within r.entries f.place.spot.route built.entry built.numbered, get_or_from_slice_get r.entries f.place.spot.route built.entry built.entry built.numbered)

  same-spot : b.spot ≡ f.place.spot
  same-spot = ap (λ (p : PlaceValue). p.spot) gap.placed

  near : IsNear r r.window built.since built.read
  near =
      let own = subst (λ (s : SpotValue). IsEraOf r s.era gap.block_is.since) same-spot gap.block_is.spot.opened in
      let own_read = subst (λ (s : SpotValue). IsEraOf r s.get_era gap.block_is.read) same-spot gap.block_is.spot.read_opened in
      number_near r r.window f.place.spot.era f.place.spot.get_era built.since built.read built.opened built.read_opened (gap.block_is.since, gap.block_is.read, own, own_read, gap.block_is.spot.near)

  at_spot : IsSpotOf r f.place.spot tree built.rest built.since built.read
  at_spot = record { entry = built.entry; numbered = built.numbered; has_tree = refl; listed = built.listed; has_member = built.member; opened = built.opened; read_opened = built.read_opened; near = near }

  block : IsBlockAt tree built.rest built.since built.read b
  block = block_has r f.place.spot tree built.rest built.since built.read at_spot b gap.block_is same-spot

  leaf-pool : pool_at_position tree leaf.position ≡ Some (pool_for leaf)
  leaf-pool = pool_of_leg tree (IsReadableAt tree built.rest built.read) b.readable block.readable leaf gap.readable

  same-pool : built.pool ≡ pool_for leaf
  same-pool = same_Some built.pool (pool_for leaf) (sym built.pool_there ∙ ap (pool_at_position tree) (sym at-leaf) ∙ leaf-pool)

  sized : AreSized (sizes_of r) tree
  sized = entry_sized r built.entry sound there

  size : (leaf.symbol < length (sizes_of r)) × (slice_index (sizes_of r) leaf.symbol ≡ length leaf.servers)
  size = sized leaf.position (pool_for leaf) leaf-pool

  low : f.at < slice_index (sizes_of r) leaf.symbol
  low = let within = slice_get_within leaf.servers f.at f.server gap.has in omega (arith, within, size.1)

  same-choice : free_indexes built.legs f.server leaf.symbol f.at 0 r.symbols ≡ f.choice
  same-choice = sym (built.choice ∙ ap (λ (q : Pool). free_indexes built.legs f.server q.symbol f.at 0 r.symbols) same-pool)

  placed : IsAtPlace r f tree built.rest built.since built.read
  placed =
      let inside = members_are_inside tree f.place.spot.class built.rest built.member built.listed in
      let within : IsWithin depth_limit tree = All-contains (λ (e : RouteEntry). IsWithin depth_limit e.tree) r.entries built.entry limits.levels there in
      let word = key-word depth_limit tree f.place.spot.class built.rest prefix within built.listed built.member inside.1 alias (prefix-some prefix alias.prefix) short in
      record {
        prefix = prefix;
        route = ap (option_map (λ (e : RouteEntry). e.tree)) built.numbered;
        word = ap is_key_word built.key ∙ word;
        cut = routed alias.prefix built.key;
        rest_is = built.rest_is;
        selects = selects;
        class = inside.0;
        era = built.opened;
        get_era = built.read_opened;
        near = subst (λ w. IsNear r w built.since built.read) (sym built.window) near;
      }

  is-leaf : IsLeafOf f tree
  is-leaf = record {
    pool = built.pool;
    pool_there = built.pool_there;
    index =
        ap (λ (q : Pool). slice_index f.choice q.symbol) same-pool
        ∙ ap (λ (ns : List ℕ). slice_index ns leaf.symbol) (sym same-choice)
        ∙ gaps.own-at (sizes_of r) tree built.rest built.since built.read positive sized b block leaf f.at f.server gap.has gap.unanswered built.legs built.are r.symbols refl size.0 low;
    server = ap (λ (q : Pool). slice_get q.servers f.at) same-pool ∙ gap.has;
  }

  read : IsRead f tree built.rest built.read
  read = record {
    reading = built.reading;
    rising = GetOutcomes.rises tree f.op built.rest built.read f.place.leaf f.gets built.gets;
    reachable = GetOutcomes.reached tree f.op built.rest built.read f.place.leaf f.gets built.gets (slice_index f.choice);
    hit = GetOutcomes.hits tree f.op built.rest built.read f.place.leaf f.gets built.gets;
  }

  missed : IsMissed f tree built.rest built.since
  missed =
      subst (λ (es : History). IsMissed (record f { deletes = es }) tree built.rest built.since) (sym built.deletes)
      (subst (λ (ns : List ℕ). IsMissed (record f { deletes = answers Good (plan tree (asked Delete built.rest built.since)); choice = ns }) tree built.rest built.since) same-choice
      (record {
        rising = DeleteOutcomes.rises tree built.rest built.since (slice_index (free_indexes built.legs f.server leaf.symbol f.at 0 r.symbols));
        reachable = DeleteOutcomes.reached tree built.rest built.since (slice_index (free_indexes built.legs f.server leaf.symbol f.at 0 r.symbols));
        done = DeleteOutcomes.done tree built.rest built.since (slice_index (free_indexes built.legs f.server leaf.symbol f.at 0 r.symbols)) (gaps.can (sizes_of r) tree built.rest built.since built.read positive sized b block leaf f.at f.server gap.has gap.unanswered built.legs built.are);
        unsent = gaps.unsent (sizes_of r) tree built.rest built.since built.read positive sized b block leaf f.at f.server gap.has gap.unanswered built.legs built.are r.symbols refl size.0 low;
      }))

  breaks : BreaksCoverage r f
  breaks = record {
    tree = tree;
    rest = built.rest;
    since = built.since;
    get_since = built.read;
    placed = placed;
    choice = subst (λ (ns : List ℕ). IsChoice (sizes_of r) (slice_index ns)) same-choice
        (gaps.is-choice (sizes_of r) tree built.rest built.since built.read positive sized b block leaf f.at f.server gap.has gap.unanswered built.legs built.are r.symbols refl size.0 low);
    leaf = is-leaf;
    read = read;
    missed = missed;
  }

-- the finding that is shown of a gap with the first routing prefix of its route breaks coverage
pub breaks-at : (r : RoutesValue) → IsSoundRoutes r → AreWithinLimits r → All (λ n. 0 < n) (sizes_of r) → (g : Gap) (f : FindingValue) (prefix : List ℕ) → IsGap r (place_of g.place) g.at g.server.0 → IsAtGap g f
    → AreSelected r.entries → first_alias r g.place.route ≡ Some prefix → IsShownWith r prefix f → BreaksCoverage r f
breaks-at r sound limits positive g f prefix gap at selected first shown =
    let alias = is-alias r g.place.route prefix selected first in
    let selects : route_of_prefix prefix r.entries ≡ Some f.place.spot.route = subst (λ n. route_of_prefix prefix r.entries ≡ Some n) (sym (ap (λ (p : PlaceValue). p.spot.route) at.place)) (selects-route r g.place.route prefix selected first) in
    breaks r sound limits positive f prefix (at-finding (IsGap r) g f at gap) alias.0 alias.1 selects shown
