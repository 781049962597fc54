-- The sets of a class, era by era, and the legs that can be read in some of them.
use Rattle.std.proofs.Common.{◌≡◌, ◌<◌, ◌≤◌, ◌+◌, ◌↔◌, ⊎_elim, inl, inr, ℕ, zero, suc, List, [], ◌++◌, Option, Some, get_or, length, refl, sym, ap, ◌∙◌, subst, arith}
use Rattle.std.specs.Prelude.{option_map, slice_get}
use Rattle.std.specs.List.{Contains}
use Rattle.std.proofs.lemmas.Bool.{cases_lt}
use Rattle.std.proofs.lemmas.List.Elements.{Contains-get_or, Contains-append_cases, Contains-append_left, Contains-append_right}
use Rattle.std.proofs.lemmas.Option.{same_Some, slice_get-get_or, slice_get_within}
use Rattle.mcv_blocks.specs.Spots.{AreNears}
use Rattle.mcv_gaps.specs.Gaps.{WantedValue}
use Rattle.mcv_route.specs.declared.eras.NearEras.{NearEras}
use Rattle.mcv_blocks.specs.Blocks.{AreLeavesAt, pool_for}
use Rattle.mcv_blocks.specs.Sets.{SetsValue}
use Rattle.mcv_blocks.specs.SetsInEras.{AreSetsFrom}
use Rattle.mcv_blocks.specs.declared.classes.RouteClass.{RouteClass}
use Rattle.mcv_blocks.proofs.OneListOfBlocks.{has_property, leg_there, pool_of_leg}
use Rattle.mcv_judge.specs.Reason.{LegValue}
use Rattle.mcv_route.specs.Eras.{HasEra, IsEraOf}
use Rattle.mcv_route.specs.Places.{pool_at_position}
use Rattle.mcv_route.specs.Routes.{RouteEntry, RoutesValue}
use Rattle.mcv_route.specs.Tree.{Tree}
use Rattle.mcv_symbolic.specs.JustifiedRoutes.{IsReadableAt}
use Rattle.mcv_needs.specs.Wanted.{AreSetsByEra, AreSetsIn, AreWantedByEra, AreWantedOf, AreWithin, HaveEachEra, IsReadNear}

-- what each entry is, of none
pub none_yet : {A : Type 0} (P : ℕ → A → Type 0) (k : ℕ) (x : A) → slice_get [] k ≡ Some x → P k x
none_yet P k x e = absurd cc

pub sets_are : (r : RoutesValue) (t : Tree) (rest : List ℕ) (era : ℕ) (since : Option ℕ) (s : SetsValue) → s ≡ record { tree = t; rest = rest; since = since } → (HasEra r era → IsEraOf r era since) → AreSetsIn r t rest era s
sets_are r t rest era since s e opened = record {
  tree = ap (λ (x : SetsValue). x.tree) e;
  same = ap (λ (x : SetsValue). x.rest) e;
  opened = λ has. subst (IsEraOf r era) (sym (ap (λ (x : SetsValue). x.since) e)) (opened has);
}

-- those of a class, by its tree and its member
pub sets_of_class : (r : RoutesValue) (c : RouteClass) (t : Tree) (rest : List ℕ) (sets : List SetsValue) → Some t ≡ option_map (λ (e : RouteEntry). e.tree) (slice_get r.entries c.route) → Some rest ≡ c.class.member
    → AreSetsByEra r t rest sets → AreSetsFrom r c 0 sets
sets_of_class r c t rest sets tree member by k s h =
    let own = by k s h in
    let e : 0 + k ≡ k = omega arith in
    record { tree = ap Some own.tree ∙ tree; member = ap Some own.same ∙ member; opened = subst (λ n. HasEra r n → IsEraOf r n s.since) (sym e) own.opened }

-- a leaf of one list is in the other
leaf_too : (t : Tree) (P : List ℕ → Type 0) (legs others : List LegValue) → AreLeavesAt t P legs → AreLeavesAt t P others → (l : LegValue) → Contains legs l → Contains others l
leaf_too t P legs others are also l at =
    let found = leg_there t P others also l.position (has_property t P legs are l at) in
    let pool : pool_for found.0 ≡ pool_for l = same_Some (pool_for found.0) (pool_for l) (sym (pool_of_leg t P others also found.0 found.1) ∙ ap (pool_at_position t) found.2 ∙ pool_of_leg t P legs are l at) in
    let same : found.0 ≡ l = λ i. record { position = found.2 i; symbol = (pool i).symbol; servers = (pool i).servers } in
    subst (Contains others) same found.1

-- none so far
pub near_none : (sets : List SetsValue) (first : ℕ) (leaf : LegValue) → Contains [] leaf ↔ IsReadNear sets first first leaf
near_none sets first leaf = (λ at. absurd (omega (arith, at.1)), λ n. let low = n.low in let high = n.high in absurd (omega (arith, low, high)))

-- one era more
pub near_more : (sets : List SetsValue) (first era : ℕ) (own : SetsValue) (all leaves : List LegValue) → first ≤ era → slice_get sets era ≡ Some own → AreLeavesAt own.tree (IsReadableAt own.tree own.rest own.since) leaves
    → ((leaf : LegValue) → Contains all leaf ↔ IsReadNear sets first era leaf) → (leaf : LegValue) → Contains (all ++ leaves) leaf ↔ IsReadNear sets first (era + 1) leaf
near_more sets first era own all leaves low there are so_far leaf = (
  λ at. ⊎_elim
      (λ h. let n = (so_far leaf).0 h in let high = n.high in record { era = n.era; low = n.low; high = omega (arith, high); own = n.own; there = n.there; read = n.read })
      (λ h. record { era = era; low = low; high = omega arith; own = own; there = there; read = record { leaves = leaves; are = are; listed = h } })
      (Contains-append_cases all leaves leaf at),
  λ n. elim (cases_lt n.era era) [
    | inl below ↦ Contains-append_left all leaves leaf ((so_far leaf).1 (record { era = n.era; low = n.low; high = below; own = n.own; there = n.there; read = n.read }))
    | inr above ↦
        let high = n.high in
        let e : n.era ≡ era = omega (arith, high, above) in
        let same : n.own ≡ own = same_Some n.own own (sym n.there ∙ ap (slice_get sets) e ∙ there) in
        let theirs : AreLeavesAt own.tree (IsReadableAt own.tree own.rest own.since) n.read.leaves = subst (λ (s : SetsValue). AreLeavesAt s.tree (IsReadableAt s.tree s.rest s.since) n.read.leaves) same n.read.are in
        Contains-append_right all leaves leaf (leaf_too own.tree (IsReadableAt own.tree own.rest own.since) n.read.leaves leaves theirs are leaf n.read.listed)
  ],
)

-- ---- all eras

-- the eras near one of the routes', and the last of them, have sets
pub within : (r : RoutesValue) (sets : List SetsValue) (nears : List NearEras) → HaveEachEra r sets → AreNears r nears → AreWithin sets nears
within r sets nears have are k x at =
    let near = are.each k x at in
    let first = near.first_is in
    let end = near.end_is in
    let own = near.near k first end in
    let lt : k < length sets = have k (own.0, own.2) in
    (lt, omega (arith, first, end), last x.end end (λ other low high. let o = near.near other (omega (arith, first, low)) high in have other (o.1, o.3)))
  where
    last : (n : ℕ) → k < n → ((other : ℕ) → k ≤ other → other < n → other < length sets) → n ≤ length sets
    last zero end up_to = absurd (omega (arith, end))
    last (suc n) end up_to = let h = up_to n (omega (arith, end)) (omega arith) in omega (arith, h)

-- what those of all eras leave
pub wanted_of_all : (r : RoutesValue) (c : RouteClass) (nears : List NearEras) (ws : List WantedValue) → AreNears r nears → length ws ≡ length nears → AreWantedByEra r c ws → AreWantedOf r c ws
wanted_of_all r c nears ws are many by = record {
  all = λ b a.
      let near = are.all b.spot.era (a.is.since, a.is.spot.opened) in
      let lt : b.spot.era < length ws = (let low = slice_get_within nears b.spot.era near.0 near.1 in omega (arith, low, many)) in
      let none : WantedValue = record { readable = []; acknowledged = [] } in
      let at = slice_get-get_or ws b.spot.era none lt in
      (get_or ws b.spot.era none, Contains-get_or ws b.spot.era none lt, (by b.spot.era (get_or ws b.spot.era none) at).all b a refl);
  only = λ w at leaf read. (by at.0 w (slice_get-get_or ws at.0 w at.1 ∙ ap Some at.2)).only leaf read;
}
