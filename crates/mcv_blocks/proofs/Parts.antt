-- What the cases of a route find are the parts of its block.
use Rattle.std.proofs.Common.{◌≡◌, ◌↔◌, ℕ, suc, Bool, true, false, List, [], ◌∷◌, map, Bor, Some, refl, sym, ap, subst, arith}
use Rattle.std.specs.Prelude.{IsTrue}
use Rattle.std.specs.List.{All, AllPairs, Contains}
use Rattle.std.specs.declared.cmp.Ordering.TheVariants.{Less}
use Rattle.std.proofs.lemmas.Bool.{false≢true}
use Rattle.std.proofs.lemmas.List.Elements.{All-cons, All-from_recursion, All-head, All-nil, All-tail, All-weaker}
use Rattle.std.proofs.lemmas.List.Kept.{AllPairs-cons}
use Rattle.mcv_base.specs.declared.operation.Op.TheVariants.{Get, Gets, Incr, Decr}
use Rattle.mcv_cert.specs.Pair.{list_cmp}
use Rattle.mcv_classes.specs.Class.{IsBefore}
use Rattle.mcv_judge.specs.Faults.{AreLegsRising}
use Rattle.mcv_judge.specs.Reason.{LegValue}
use Rattle.mcv_route.specs.Outcomes.{Choice}
use Rattle.mcv_route.specs.Places.{pool_at_position}
use Rattle.mcv_route.specs.Situation.{asked}
use Rattle.mcv_route.specs.Tree.{Tree}
use Rattle.mcv_rules.specs.declared.plan.PlannedLeg.{PlannedLeg}
use Rattle.mcv_symbolic.specs.Case.{CaseValue, situation_of}
use Rattle.mcv_symbolic.specs.LegInMemory.{pool_of}
use Rattle.mcv_symbolic.specs.JustifiedRoutes.{IsNeverAcknowledged, IsReadableAt}
use Rattle.mcv_symbolic.specs.Sets as sets
use Rattle.mcv_symbolic.specs.Sets.{AreLegsAt, CanBeAcknowledged, CanHitAt, IsAcknowledged}
use Rattle.mcv_blocks.specs.Blocks.{AreLeavesAt, IsAcknowledgedAt, pool_for, positions_of}
use Rattle.mcv_blocks.specs.MergedLegs.{leaf_of, leaves_of, merge}
use Rattle.mcv_blocks.specs.Sets.{AreCases, SetsValue}
use Rattle.mcv_blocks.proofs.BlockAtEachSpot.{readable_by_four}
use Rattle.mcv_blocks.proofs.MergesRise.{positions-all}
use Rattle.mcv_route.proofs.RisingLists.{rises_behind}

-- ---- the legs of a plan, borrowed

abbrev looked-at : List (Bor PlannedLeg) → List PlannedLeg
looked-at legs = map (λ (l : Bor PlannedLeg). l.now) legs

same-positions : (legs : List (Bor PlannedLeg)) → sets.positions_of (looked-at legs) ≡ positions_of (leaves_of legs)
same-positions [] = refl
same-positions (l ∷ legs) = ap (λ ps. l.now.position ∷ ps) (same-positions legs)

pools-too : (t : Tree) (legs : List (Bor PlannedLeg)) → All (λ (l : PlannedLeg). pool_at_position t l.position ≡ Some (pool_of l)) (looked-at legs) → All (λ l. pool_at_position t l.position ≡ Some (pool_for l)) (leaves_of legs)
pools-too t [] h = All-nil (λ l. pool_at_position t l.position ≡ Some (pool_for l))
pools-too t (l ∷ legs) h =
    let Q : PlannedLeg → Type 0 = λ k. pool_at_position t k.position ≡ Some (pool_of k) in
    All-cons (λ k. pool_at_position t k.position ≡ Some (pool_for k)) (leaf_of l.now) (leaves_of legs) (All-head Q l.now (looked-at legs) h) (pools-too t legs (All-tail Q l.now (looked-at legs) h))

rise-too : (ls : List LegValue) → AllPairs IsBefore (positions_of ls) → AreLegsRising ls
rise-too [] h = λ i j d low high. absurd (omega (arith, high))
rise-too (l ∷ ls) h =
    let R : LegValue → LegValue → Type 0 = λ k m. list_cmp k.position m.position ≡ Less in
    let behind : All (IsBefore l.position) (positions_of ls) = λ k d low. h 0 (suc k) d (omega arith) (omega (arith, low)) in
    AllPairs-cons R l ls (All-from_recursion (R l) ls (positions-all (IsBefore l.position) ls behind)) (rise-too ls (rises_behind IsBefore l.position (positions_of ls) h))

leaves-too : (t : Tree) (P : List ℕ → Type 0) (legs : List (Bor PlannedLeg)) → AreLegsAt t P (looked-at legs) → AreLeavesAt t P (leaves_of legs)
leaves-too t P legs h = record {
  pools = pools-too t legs h.pools;
  rising = rise-too (leaves_of legs) (subst (AllPairs IsBefore) (same-positions legs) h.rising);
  only = subst (All P) (same-positions legs) h.only;
  all = λ p own. subst (λ ps. Contains ps p) (same-positions legs) (h.all p own);
}

-- ---- under every choice

any : Choice
any s = 0

module _ (t : Tree) (P : Choice → List ℕ → Type 0) (ls : List LegValue) (each : (c : Choice) → AreLeavesAt t (P c) ls) where
  by-some : AreLeavesAt t (λ p. (c : Choice) × P c p) ls
  by-some = record {
    pools = (each any).pools;
    rising = (each any).rising;
    only = All-weaker (P any) (λ p. (c : Choice) × P c p) (λ p own. (any, own)) (positions_of ls) (each any).only;
    all = λ p own. (each own.0).all p own.1;
  }

  by-all : AreLeavesAt t (λ p. (c : Choice) → P c p) ls
  by-all = record {
    pools = (each any).pools;
    rising = (each any).rising;
    only = λ k d low c. (each c).only k d low;
    all = λ p own. (each any).all p (own any);
  }

-- ---- the parts

abbrev value_of : CaseValue → SetsValue
value_of d = record { tree = d.tree; rest = d.rest; since = d.since }

-- what a case's legs can be read from
abbrev pub AreHits : CaseValue → List (Bor PlannedLeg) → Type 0
AreHits k legs = (c : Choice) → AreLegsAt k.tree (CanHitAt k.tree (situation_of k) c) (map (λ (l : Bor PlannedLeg). l.now) legs)

hit-leaves : (k : CaseValue) (legs : List (Bor PlannedLeg)) → AreHits k legs → AreLeavesAt k.tree (λ p. (c : Choice) × CanHitAt k.tree (situation_of k) c p) (leaves_of legs)
hit-leaves k legs h = by-some k.tree (λ c. CanHitAt k.tree (situation_of k) c) (leaves_of legs) (λ c. leaves-too k.tree (CanHitAt k.tree (situation_of k) c) legs (h c))

module _ (value : SetsValue) (delete get gets incr decr : CaseValue) (are : AreCases delete get gets incr decr) (seen : value_of delete ≡ value) where
  pub readable_legs : (by-get by-gets by-incr by-decr : List (Bor PlannedLeg)) → AreHits get by-get → AreHits gets by-gets → AreHits incr by-incr → AreHits decr by-decr → (all : List LegValue)
      → all ≡ merge (merge (leaves_of by-get) (leaves_of by-gets)) (merge (leaves_of by-incr) (leaves_of by-decr)) → AreLeavesAt value.tree (IsReadableAt value.tree value.rest value.since) all
  readable_legs by-get by-gets by-incr by-decr a b d e all is =
      let t = delete.tree in
      let rest = delete.rest in
      let since = delete.since in
      let four =
      readable_by_four t rest since (leaves_of by-get) (leaves_of by-gets) (leaves_of by-incr) (leaves_of by-decr)
      (hit-leaves (record delete { op = Get }) by-get (subst (λ k. AreHits k by-get) are.getting a))
      (hit-leaves (record delete { op = Gets }) by-gets (subst (λ k. AreHits k by-gets) are.getting_all b))
      (hit-leaves (record delete { op = Incr }) by-incr (subst (λ k. AreHits k by-incr) are.raising d))
      (hit-leaves (record delete { op = Decr }) by-decr (subst (λ k. AreHits k by-decr) are.lowering e)) in
      subst (λ (v : SetsValue). AreLeavesAt v.tree (IsReadableAt v.tree v.rest v.since) all) seen (subst (AreLeavesAt t (IsReadableAt t rest since)) (sym is) four)

  pub acknowledged_legs : (legs : List (Bor PlannedLeg)) → ((c : Choice) → AreLegsAt delete.tree (IsAcknowledged delete.tree delete.rest delete.since c) (map (λ (l : Bor PlannedLeg). l.now) legs)) → (all : List LegValue) → all ≡ leaves_of legs → AreLeavesAt value.tree (IsAcknowledgedAt value.tree value.rest value.since) all
  acknowledged_legs legs h all is =
      let t = delete.tree in
      let own = by-all t (λ c. IsAcknowledged t delete.rest delete.since c) (leaves_of legs) (λ c. leaves-too t (IsAcknowledged t delete.rest delete.since c) legs (h c)) in
      subst (λ (v : SetsValue). AreLeavesAt v.tree (IsAcknowledgedAt v.tree v.rest v.since) all) seen (subst (AreLeavesAt t (IsAcknowledgedAt t delete.rest delete.since)) (sym is) own)

  never-here : (b : Bool) → ((c : Choice) → IsTrue b ↔ CanBeAcknowledged delete.tree delete.rest delete.since c) → (b ≡ false) ↔ IsNeverAcknowledged delete.tree delete.rest delete.since
  never-here true h = (λ e. absurd (false≢true (sym e)), λ never. absurd (never any ((h any).0 refl)))
  never-here false h = (λ e c can. false≢true ((h c).1 can), λ never. refl)

  pub never_acknowledged : (b : Bool) → ((c : Choice) → IsTrue b ↔ CanBeAcknowledged delete.tree delete.rest delete.since c) → (b ≡ false) ↔ IsNeverAcknowledged value.tree value.rest value.since
  never_acknowledged b h = subst (λ (v : SetsValue). (b ≡ false) ↔ IsNeverAcknowledged v.tree v.rest v.since) seen (never-here b h)
