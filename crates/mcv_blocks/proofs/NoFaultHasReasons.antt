-- A certificate without a fault has a reason for each leaf that can be read, at each of its indexes.
use Rattle.std.proofs.Common.{◌≡◌, ◌⊎◌, ◌<◌, ◌&&◌, ◌||◌, not, ℕ, Bool, true, false, nat_eq, List, [], ◌∷◌, length, Option, Some, None, inl, inr, refl, sym, ap, ◌∙◌, subst, arith}
use Rattle.std.specs.Prelude.{flat_map, if◌then◌else◌}
use Rattle.std.specs.List.{Contains}
use Rattle.std.specs.Ordering.{is_eq, nat_cmp, ordering_then}
use Rattle.std.specs.declared.cmp.Ordering.{Ordering}
use Rattle.std.specs.declared.cmp.Ordering.TheVariants.{Less, Equal, Greater}
use Rattle.std.proofs.lemmas.Bool.{and_parts, false≢true, lt-ltb}
use Rattle.std.proofs.lemmas.Cmp.{nat_cmp_total, tied_itself}
use Rattle.std.proofs.lemmas.List.Elements.{All-contains}
use Rattle.std.proofs.lemmas.Option.{none-some, same_Some}
use Rattle.mcv_route.specs.Routes.{RoutesValue}
use Rattle.mcv_cert.specs.Pair.{AreRising, PairValue, PlaceValue, ReasonValue, SpotValue, never, twin, same, all, index_cmp, index_of, list_cmp, pair_cmp, place_cmp, spot_cmp}
use Rattle.mcv_judge.specs.Faults.{IsFaultless, Required, fault_there, has_index, is_answered_whole, require, required_at, required_by, pair_at, place_required}
use Rattle.mcv_judge.specs.Reason.{BlockValue, HasReason, LegValue, fault_of, is_whole}
use Rattle.mcv_judge.specs.declared.fault.PairFault.{PairFault}
use Rattle.mcv_judge.specs.declared.fault.PairFault.TheVariants.{Missing, Stray}
use Rattle.mcv_judge.proofs.FirstFault.{nat_equal, then_equal}
use Rattle.mcv_cert.proofs.Rising.{places_total}
use Rattle.mcv_symbolic.specs.JustifiedRoutes.{IsReadableAt}
use Rattle.mcv_blocks.specs.Blocks.{AreBlocksOf, IsBlockOf}
use Rattle.mcv_route.proofs.RisingLists.{one_of}
use Rattle.mcv_blocks.proofs.Searches.{finds_one, found, from_flat_map, from_map, into_flat_map, into_map, some_passes}
use Rattle.mcv_blocks.proofs.OneListOfBlocks.{one_block, one_leg}

-- ---- what compares equal is equal

pub equal_of : (o : Ordering) → is_eq o ≡ true → o ≡ Equal
equal_of Less h = absurd (false≢true h)
equal_of Equal h = refl
equal_of Greater h = absurd (false≢true h)

pub list_equal : (xs ys : List ℕ) → list_cmp xs ys ≡ Equal → xs ≡ ys
list_equal [] [] h = refl
list_equal [] (y ∷ ys) h = absurd cc
list_equal (x ∷ xs) [] h = absurd cc
list_equal (x ∷ xs) (y ∷ ys) h =
    let both = then_equal (nat_cmp x y) (list_cmp xs ys) h in
    let first = nat_equal x y both.0 in
    let rest = list_equal xs ys both.1 in
    λ i. first i ∷ rest i

spot_equal : (s z : SpotValue) → spot_cmp s z ≡ Equal → s ≡ z
spot_equal s z h =
    let all = then_equal (ordering_then (ordering_then (nat_cmp s.route z.route) (list_cmp s.class z.class)) (nat_cmp s.era z.era)) (nat_cmp s.get_era z.get_era) h in
    let a = then_equal (ordering_then (nat_cmp s.route z.route) (list_cmp s.class z.class)) (nat_cmp s.era z.era) all.0 in
    let b = then_equal (nat_cmp s.route z.route) (list_cmp s.class z.class) a.0 in
    let route = nat_equal s.route z.route b.0 in
    let class = list_equal s.class z.class b.1 in
    let era = nat_equal s.era z.era a.1 in
    let get_era = nat_equal s.get_era z.get_era all.1 in
    λ i. record { route = route i; class = class i; era = era i; get_era = get_era i }

place_equal : (s z : PlaceValue) → place_cmp s z ≡ Equal → s ≡ z
unfolding place_cmp
place_equal s z h =
    let both = then_equal (spot_cmp s.spot z.spot) (list_cmp s.leaf z.leaf) h in
    let spot = spot_equal s.spot z.spot both.0 in
    let leaf = list_equal s.leaf z.leaf both.1 in
    λ i. record { spot = spot i; leaf = leaf i }

place_itself : (s : PlaceValue) → place_cmp s s ≡ Equal
place_itself s = tied_itself places_total s

-- an index at a place, and another that is the same
index_equal : (s z : PlaceValue) (i j : ℕ) → is_eq (index_cmp s i z j) ≡ true → (s ≡ z) × (i ≡ j)
index_equal s z i j h =
    let both = then_equal (place_cmp s z) (nat_cmp i j) (equal_of (index_cmp s i z j) h) in
    (place_equal s z both.0, nat_equal i j both.1)

index_itself : (s z : PlaceValue) (i j : ℕ) → s ≡ z → i ≡ j → index_cmp s i z j ≡ Equal
index_itself s z i j e f =
    subst (λ y. index_cmp s i y j ≡ Equal) e
    (subst (λ k. index_cmp s i s k ≡ Equal) f (ap (λ o. ordering_then o (nat_cmp i i)) (place_itself s) ∙ tied_itself nat_cmp_total i))

never_less : (o : Ordering) → o ≡ Equal → o ≡ Less → ⊥
never_less o e less = let apart : Equal ≡ Less = sym e ∙ less in cc

-- ---- the leaf that requires an answer at its place

module _ (r : RoutesValue) (blocks : List BlockValue) (are : AreBlocksOf r blocks) (b : BlockValue) (at : Contains blocks b) (leaf : LegValue) (readable : Contains b.readable leaf) where
  is_block : IsBlockOf r b
  is_block = All-contains (IsBlockOf r) blocks b are.only at

  -- a block and a leaf of it at the place are these
  same_required : (c : BlockValue) (l : LegValue) → Contains blocks c → Contains c.readable l → place_required (require c l) ≡ place_required (require b leaf) → require c l ≡ require b leaf
  same_required c l there own e =
      let block : c ≡ b = one_block r c b (All-contains (IsBlockOf r) blocks c are.only there) is_block (ap (λ (z : PlaceValue). z.spot) e) in
      let here : Contains b.readable l = subst (λ x. Contains x.readable l) block own in
      let leg : l ≡ leaf = one_leg is_block.tree (IsReadableAt is_block.tree is_block.member is_block.read) b.readable is_block.has.readable l leaf here readable (ap (λ (z : PlaceValue). z.leaf) e) in
      λ i. require (block i) (leg i)

  one_required : (o : Required) → Contains (flat_map required_by blocks) o → is_eq (place_cmp (place_required o) (place_required (require b leaf))) ≡ true → o ≡ require b leaf
  one_required o there equal =
      let of = from_flat_map required_by blocks o there in
      let own = from_map (require of.0) of.0.readable o of.2 in
      let place : place_required o ≡ place_required (require b leaf) = place_equal (place_required o) (place_required (require b leaf)) (equal_of (place_cmp (place_required o) (place_required (require b leaf))) equal) in
      sym own.2 ∙ same_required of.0 own.0 of.1 own.1 (ap place_required own.2 ∙ place)

  pub required_there : required_at (flat_map required_by blocks) (place_required (require b leaf)) ≡ Some (require b leaf)
  required_there =
      finds_one (λ o. is_eq (place_cmp (place_required o) (place_required (require b leaf)))) (flat_map required_by blocks) (require b leaf)
      (into_flat_map required_by blocks b (require b leaf) at (into_map (require b) b.readable leaf readable))
      (ap is_eq (place_itself (place_required (require b leaf))))
      one_required

-- ---- what is at a place without a fault

fine_if : (c : Bool) (x : Option PairFault) → (if c then x else Some Stray) ≡ None → x ≡ None
fine_if true x h = h
fine_if false x h = absurd (none-some Stray (sym h))

not_missing : (c whole : Bool) → c ≡ true → (if c && not whole then Some Missing else None) ≡ None → whole ≡ true
not_missing true true e h = refl
not_missing true false e h = absurd (none-some Missing (sym h))
not_missing false whole e h = absurd (false≢true e)

-- a pair, and then a fine one, or one for all
there : (b : BlockValue) (leaf : LegValue) (o : Option PairValue) (whole : Bool) (i : ℕ) → i < length leaf.servers → fault_there (Some (require b leaf)) o whole i ≡ None →
    ((o ≡ None) × (whole ≡ true)) ⊎ ((p : PairValue) × (o ≡ Some p) × (fault_of b leaf p.reason ≡ None))
there b leaf None whole i low h = inl (refl, not_missing (has_index (require b leaf) i) whole (lt-ltb i (length leaf.servers) low) h)
there b leaf (Some p) whole i low h = inr (p, refl, fine_if (has_index (require b leaf) i && (nat_eq i 0 || not whole)) (fault_of b leaf p.reason) h)

whole_at_zero : (x : ReasonValue) → is_whole x ≡ true → index_of x ≡ 0
whole_at_zero never h = refl
whole_at_zero (twin leg) h = refl
whole_at_zero (same index leg) h = absurd (false≢true h)
whole_at_zero (all index legs) h = absurd (false≢true h)

module _ (pairs : List PairValue) (blocks : List BlockValue) (up : AreRising pairs) (fine : IsFaultless pairs blocks) (b : BlockValue) (leaf : LegValue) (required : required_at (flat_map required_by blocks) (place_required (require b leaf)) ≡ Some (require b leaf)) where
  abbrev s : PlaceValue
  s = place_required (require b leaf)

  abbrev is_at : ℕ → PairValue → Bool
  is_at i p = is_eq (index_cmp p.place (index_of p.reason) s i)

  here : (i : ℕ) → fault_there (Some (require b leaf)) (pair_at pairs s i) (is_answered_whole pairs s) i ≡ None
  here i = subst (λ o. fault_there o (pair_at pairs s i) (is_answered_whole pairs s) i ≡ None) required (fine s i)

  -- of two pairs at one index of the place, both are one
  one_pair : (i : ℕ) (p q : PairValue) → Contains pairs p → Contains pairs q → is_at i p ≡ true → is_at i q ≡ true → p ≡ q
  one_pair i p q at also h g =
      let a = index_equal p.place s (index_of p.reason) i h in
      let c = index_equal q.place s (index_of q.reason) i g in
      let place = a.0 ∙ sym c.0 in
      let index = a.1 ∙ sym c.1 in
      one_of (λ (x y : PairValue). pair_cmp x y ≡ Less) pairs p q up at also
      (never_less (pair_cmp p q) (index_itself p.place q.place (index_of p.reason) (index_of q.reason) place index))
      (never_less (pair_cmp q p) (index_itself q.place p.place (index_of q.reason) (index_of p.reason) (sym place) (sym index)))

  -- a pair that speaks of all indexes is judged at index 0
  by_whole : (i : ℕ) → i < length leaf.servers → is_answered_whole pairs s ≡ true → HasReason b leaf i
  by_whole i low h =
      let w = some_passes (λ (p : PairValue). is_whole p.reason && is_eq (place_cmp p.place s)) pairs h in
      let parts = and_parts (is_whole w.0.reason) (is_eq (place_cmp w.0.place s)) w.2 in
      let place = place_equal w.0.place s (equal_of (place_cmp w.0.place s) parts.1) in
      let passes : is_at 0 w.0 ≡ true = ap is_eq (index_itself w.0.place s (index_of w.0.reason) 0 place (whole_at_zero w.0.reason parts.0)) in
      let first : pair_at pairs s 0 ≡ Some w.0 = finds_one (is_at 0) pairs w.0 w.1 passes (λ p at is. one_pair 0 p w.0 at w.1 is passes) in
      elim (there b leaf (pair_at pairs s 0) (is_answered_whole pairs s) 0 (omega (arith, low)) (here 0)) [
        | inl n ↦ absurd (none-some w.0 (sym n.0 ∙ first))
        | inr p ↦
            let same_pair : w.0 ≡ p.0 = same_Some w.0 p.0 (sym first ∙ p.1) in
            (w.0.reason, inl parts.0, subst (λ q. fault_of b leaf q.reason ≡ None) (sym same_pair) p.2)
      ]

  pub has_reason : (i : ℕ) → i < length leaf.servers → HasReason b leaf i
  has_reason i low =
      elim (there b leaf (pair_at pairs s i) (is_answered_whole pairs s) i low (here i)) [
        | inl n ↦ by_whole i low n.1
        | inr p ↦
            let is = found (is_at i) pairs p.0 p.1 in
            (p.0.reason, inr (index_equal p.0.place s (index_of p.0.reason) i is.1).1, p.2)
      ]
