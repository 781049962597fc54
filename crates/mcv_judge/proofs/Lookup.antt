-- A search among rising positions finds the one leaf at a position.
use Rattle.std.proofs.Common.{◌≡◌, ℕ, ◌+◌, ◌<◌, false, List, [], ◌∷◌, length, map, get_or, Some, None, Result, Ok, Err, refl, sym, ap, ◌∙◌, subst, arith, inl, inr, MatchResult}
use Rattle.std.specs.List.{HoldsAt, AllWithin}
use Rattle.std.specs.List.Sorted.{IsBinarySearchResult, IsSearchInRange, IsNonDecreasingBy, IsSortedBy}
use Rattle.std.specs.declared.cmp.Ordering.TheVariants.{Less, Equal, Greater}
use Rattle.std.specs.Ordering.{is_eq, is_lt, ordering_index, ordering_reverse}
use Rattle.std.proofs.lemmas.Cmp.{nat_list_cmp_total, alike_right}
use Rattle.std.proofs.lemmas.Bool.{cases_lt}
use Rattle.std.proofs.lemmas.List.{length-map}
use Rattle.std.proofs.lemmas.List.Sorted.{searchable_from_sorted}
use Rattle.std.proofs.lemmas.List.Recursion.{found_at, found_nowhere}
use Rattle.std.proofs.Math.ListN.{get_or-map}
use Rattle.mcv_judge.specs.declared.block.Leg.{Leg}
use Rattle.mcv_cert.specs.Pair.{list_cmp}
use Rattle.mcv_judge.specs.Reason.{is_same_list, leg_at}
use Rattle.mcv_judge.specs.Faults.{AreLegsRising}
use Rattle.mcv_judge.specs.PairsInMemory.{leg_of, legs_of}

module _ (leaves : List Leg) (rising : AreLegsRising (legs_of leaves)) (p : List ℕ) where
  rises_at : (i j : ℕ) (d : Leg) → i < j → j < length leaves → list_cmp (get_or leaves i d).position.now (get_or leaves j d).position.now ≡ Less
  rises_at i j d l b =
      let all = length-map leaves leg_of in
      let h = rising i j (leg_of d) l (omega arith) in
      subst (λ x. list_cmp x.position (leg_of (get_or leaves j d)).position ≡ Less) (get_or-map leg_of leaves i d)
      (subst (λ x. list_cmp (get_or (map leg_of leaves) i (leg_of d)).position x.position ≡ Less) (get_or-map leg_of leaves j d) h)

  sorted : IsSortedBy (λ a b. is_lt (list_cmp a.position.now b.position.now)) leaves
  sorted k d low high = ap is_lt (nat_list_cmp_total.antisymm (get_or leaves (k + 1) d).position.now (get_or leaves k d).position.now ∙ ap ordering_reverse (rises_at k (k + 1) d (omega arith) high))

  rises : IsNonDecreasingBy (λ m. ordering_index (list_cmp m.position.now p)) leaves
  rises = searchable_from_sorted nat_list_cmp_total (λ m. m.position.now) leaves p sorted

  found : (i : ℕ) (d : Leg) → i < length leaves → HoldsAt (λ m. list_cmp m.position.now p ≡ Equal) leaves i → leg_at (legs_of leaves) p ≡ Some (leg_of (get_or leaves i d))
  found i d l h = found_at (λ ms. leg_at (legs_of ms) p) (λ m. is_same_list m.position.now p) (λ m. Some (leg_of m)) None refl (λ _ _. refl) leaves i d l
      (λ k b. ap is_eq (sym (alike_right nat_list_cmp_total (get_or leaves i d).position.now p (get_or leaves k d).position.now (h d)) ∙ rises_at k i d b l))
      (ap is_eq (h d))

  parted : (i : ℕ) (d : Leg) → AllWithin (λ m. list_cmp m.position.now p ≡ Less) leaves 0 i → AllWithin (λ m. list_cmp m.position.now p ≡ Greater) leaves i (length leaves) → (k : ℕ) → k < length leaves → is_same_list (get_or leaves k d).position.now p ≡ false
  parted i d low high k l = elim (cases_lt k i) [
    | inl b ↦ ap is_eq (low k d (omega arith) b)
    | inr b ↦ ap is_eq (high k d b l)
  ]

  absent : (i : ℕ) (d : Leg) → AllWithin (λ m. list_cmp m.position.now p ≡ Less) leaves 0 i → AllWithin (λ m. list_cmp m.position.now p ≡ Greater) leaves i (length leaves) → leg_at (legs_of leaves) p ≡ None
  absent i d low high = found_nowhere (λ ms. leg_at (legs_of ms) p) (λ m. is_same_list m.position.now p) (λ m. Some (leg_of m)) None refl (λ _ _. refl) leaves d (parted i d low high)

nowhere : (leaves : List Leg) → AreLegsRising (legs_of leaves) → (p : List ℕ) (i : ℕ) → AllWithin (λ m. list_cmp m.position.now p ≡ Less) leaves 0 i → AllWithin (λ m. list_cmp m.position.now p ≡ Greater) leaves i (length leaves) → leg_at (legs_of leaves) p ≡ None
nowhere [] rising p i low high = refl
nowhere (m ∷ ms) rising p i low high = absent (m ∷ ms) rising p i m low high

pub searched : (leaves : List Leg) → AreLegsRising (legs_of leaves) → (p : List ℕ) → (r : Result ℕ ℕ) → IsSearchInRange r (length leaves) → IsBinarySearchResult (λ m. list_cmp m.position.now p) leaves r →
    MatchResult r (λ i. (i < length leaves) × ((d : Leg) → leg_at (legs_of leaves) p ≡ Some (leg_of (get_or leaves i d)))) (λ i. leg_at (legs_of leaves) p ≡ None)
searched leaves rising p (Ok i) l h = (l, λ d. found leaves rising p i d l h)
searched leaves rising p (Err i) l h = let both = h (rises leaves rising p) in nowhere leaves rising p i both.0 both.1
