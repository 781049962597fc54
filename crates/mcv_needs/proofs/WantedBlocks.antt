-- What deletes of a class in an era leave, by the blocks there.
use Rattle.std.proofs.Common.{◌≡◌, ◌<◌, ◌≤◌, ◌+◌, ◌↔◌, ℕ, Bool, true, false, List, [], Some, get_or, length, true≢false, refl, sym, ap, ◌∙◌, subst, arith}
use Rattle.std.specs.Prelude.{slice_get}
use Rattle.std.specs.List.{Contains}
use Rattle.std.proofs.lemmas.Option.{same_Some, slice_get-get_or}
use Rattle.mcv_blocks.specs.Blocks.{AreLeavesAt, IsAcknowledgedAt, IsBlockAt, IsBlockOf, IsSpotOf}
use Rattle.mcv_blocks.specs.Places.{IsRouteClass}
use Rattle.mcv_blocks.specs.Sets.{SetsValue}
use Rattle.mcv_blocks.specs.SetsInEras.{AreSetsFrom, AreSetsOf}
use Rattle.mcv_blocks.specs.Spots.{spot_in}
use Rattle.mcv_blocks.specs.declared.classes.RouteClass.{RouteClass}
use Rattle.mcv_blocks.proofs.BlockOfSets.{block_is_there, tree_of}
use Rattle.mcv_blocks.proofs.OneListOfBlocks.{block_has, one_block}
use Rattle.mcv_classes.specs.Class.{IsMember}
use Rattle.mcv_classes.specs.Words.{class_words}
use Rattle.mcv_judge.specs.Reason.{BlockValue, LegValue}
use Rattle.mcv_route.specs.Eras.{AreNearEras, IsEraOf, IsNearEra}
use Rattle.mcv_route.specs.Routes.{RoutesValue}
use Rattle.mcv_route.specs.Tree.{Tree}
use Rattle.mcv_route.proofs.NearBreaks.{number_near}
use Rattle.mcv_symbolic.specs.JustifiedRoutes.{IsNeverAcknowledged, IsReadableAt}
use Rattle.mcv_needs.specs.Wanted.{IsAcknowledgedBlock, IsReadNear, IsWantedIn}

module _ (r : RoutesValue) (c : RouteClass) (is : IsRouteClass r c) where
  -- the sets of two near eras are of a spot, with one tree and one rest
  module _ (era get_era : ℕ) (near : IsNearEra r r.window era get_era) (s g : SetsValue) (are : AreSetsOf r c era s) (reads : AreSetsOf r c get_era g) where
    same_tree : g.tree ≡ s.tree
    same_tree = sym (tree_of r c is g.tree reads.tree) ∙ tree_of r c is s.tree are.tree

    same_rest : g.rest ≡ s.rest
    same_rest = same_Some g.rest s.rest (reads.member ∙ sym are.member)

    opened : IsEraOf r era s.since
    opened = are.opened (near.0, near.2)

    read_opened : IsEraOf r get_era g.since
    read_opened = reads.opened (near.1, near.3)

    spot_there : IsSpotOf r (spot_in c era get_era) s.tree s.rest s.since g.since
    spot_there =
        let tree : is.entry.tree ≡ s.tree = tree_of r c is s.tree are.tree in
        record {
          entry = is.entry;
          numbered = is.numbered;
          has_tree = tree;
          listed = subst (λ (u : Tree). Contains (class_words u) c.class.word) tree is.listed.word;
          has_member = subst (λ (u : Tree). IsMember (class_words u) c.class.word (Some s.rest)) tree (subst (IsMember (class_words is.entry.tree) c.class.word) (sym are.member) is.listed.member);
          opened = opened;
          read_opened = read_opened;
          near = number_near r r.window era get_era s.since g.since opened read_opened near;
        }

    -- what a block there has
    readable_there : (b : BlockValue) → IsBlockOf r b → b.spot ≡ spot_in c era get_era → AreLeavesAt g.tree (IsReadableAt g.tree g.rest g.since) b.readable
    readable_there b own e =
        let has : IsBlockAt s.tree s.rest s.since g.since b = block_has r (spot_in c era get_era) s.tree s.rest s.since g.since spot_there b own e in
        subst (λ (m : List ℕ). AreLeavesAt g.tree (IsReadableAt g.tree m g.since) b.readable) (sym same_rest)
        (subst (λ (t : Tree). AreLeavesAt t (IsReadableAt t s.rest g.since) b.readable) (sym same_tree) has.readable)

    module _ (acknowledged : List LegValue) (can : Bool) (acknowledges : AreLeavesAt s.tree (IsAcknowledgedAt s.tree s.rest s.since) acknowledged) (never : (can ≡ false) ↔ IsNeverAcknowledged s.tree s.rest s.since) where
      abbrev made : List LegValue → BlockValue
      made leaves = record { spot = spot_in c era get_era; readable = leaves; acknowledged = acknowledged; can_be_acknowledged = can }

      -- the block that has these
      made_is : (leaves : List LegValue) → AreLeavesAt g.tree (IsReadableAt g.tree g.rest g.since) leaves → IsBlockOf r (made leaves)
      made_is leaves reads_these = (block_is_there r c is era get_era near s g are reads (made leaves) (record { spot = refl; readable = reads_these; acknowledged = acknowledges; never = never })).is

      -- each block there is that
      same_block : (b : BlockValue) → IsBlockOf r b → b.spot ≡ spot_in c era get_era → b ≡ made b.readable
      same_block b own e = one_block r b (made b.readable) own (made_is b.readable (readable_there b own e)) e

  module _ (sets : List SetsValue) (each : AreSetsFrom r c 0 sets) where
    at_number : (k : ℕ) (s : SetsValue) → slice_get sets k ≡ Some s → AreSetsOf r c k s
    at_number k s h = let e : 0 + k ≡ k = omega arith in subst (λ n. AreSetsOf r c n s) e (each k s h)

    module _ (era first end : ℕ) (near : AreNearEras r r.window era first end) (within : end ≤ length sets) (s : SetsValue) (there : slice_get sets era ≡ Some s)
        (acknowledged : List LegValue) (can : Bool) (acknowledges : AreLeavesAt s.tree (IsAcknowledgedAt s.tree s.rest s.since) acknowledged) (never : (can ≡ false) ↔ IsNeverAcknowledged s.tree s.rest s.since) where
      -- where the block of the class in the era is, and the sets of its reads
      record IsThere (b : BlockValue) : Type 0 where
        pub get_era : ℕ
        pub low : first ≤ get_era
        pub high : get_era < end
        pub own : SetsValue
        pub at : slice_get sets get_era ≡ Some own
        pub spot : b.spot ≡ spot_in c era get_era
        pub is_near : IsNearEra r r.window era get_era

      is_there : (b : BlockValue) → IsAcknowledgedBlock r c b → b.spot.era ≡ era → IsThere b
      is_there b a e =
          let own = a.is in
          let nears : IsNearEra r r.window era b.spot.get_era = (own.since, own.read, subst (λ (n : ℕ). IsEraOf r n own.since) e own.spot.opened, own.spot.read_opened, own.spot.near) in
          let bounds = near.all b.spot.get_era nears in
          let lt : b.spot.get_era < length sets = omega (arith, bounds.1, within) in
          record {
            get_era = b.spot.get_era;
            low = bounds.0;
            high = bounds.1;
            own = get_or sets b.spot.get_era s;
            at = slice_get-get_or sets b.spot.get_era s lt;
            spot = λ i. record { route = a.route i; class = a.word i; era = e i; get_era = b.spot.get_era };
            is_near = nears;
          }

      -- a block there has the acknowledged legs, and a delete can be acknowledged there or not
      block_same : (b : BlockValue) → (a : IsAcknowledgedBlock r c b) → (t : IsThere b) → b ≡ made era t.get_era t.is_near s t.own (at_number era s there) (at_number t.get_era t.own t.at) acknowledged can acknowledges never b.readable
      block_same b a t = same_block era t.get_era t.is_near s t.own (at_number era s there) (at_number t.get_era t.own t.at) acknowledged can acknowledges never b a.is t.spot

      -- no delete can be acknowledged
      pub wanted_none : can ≡ false → IsWantedIn r c era (record { readable = []; acknowledged = acknowledged })
      wanted_none cannot = record {
        all = λ b a e. let same = block_same b a (is_there b a e) in absurd (true≢false (sym a.can ∙ ap (λ (x : BlockValue). x.can_be_acknowledged) same ∙ cannot));
        only = λ leaf at. absurd (omega (arith, at.1));
      }

      -- one can
      pub wanted_some : (readable : List LegValue) → can ≡ true → ((leaf : LegValue) → Contains readable leaf ↔ IsReadNear sets first end leaf) → IsWantedIn r c era (record { readable = readable; acknowledged = acknowledged })
      wanted_some readable may reads = record {
        all = λ b a e.
            let t = is_there b a e in
            let same = block_same b a t in
            let leaves = readable_there era t.get_era t.is_near s t.own (at_number era s there) (at_number t.get_era t.own t.at) b a.is t.spot in
            record {
              acknowledged = sym (ap (λ (x : BlockValue). x.acknowledged) same);
              readable = λ leaf at. (reads leaf).1 (record { era = t.get_era; low = t.low; high = t.high; own = t.own; there = t.at; read = record { leaves = b.readable; are = leaves; listed = at } });
            };
        only = λ leaf at.
            let n = (reads leaf).0 at in
            let nears = near.near n.era n.low n.high in
            let own = at_number n.era n.own n.there in
            let block = made era n.era nears s n.own (at_number era s there) own acknowledged can acknowledges never n.read.leaves in
            record {
              block = block;
              is = record { is = made_is era n.era nears s n.own (at_number era s there) own acknowledged can acknowledges never n.read.leaves n.read.are; route = refl; word = refl; can = may };
              acknowledged = refl;
              read = n.read.listed;
            };
      }
