-- What is picked for a leaf answers for it, and where nothing is picked nothing does.
use Rattle.std.proofs.Common.{◌≡◌, ◌<◌, ◌⊎◌, ℕ, Bool, true, List, length, Option, Some, None, inl, inr, refl, sym, ap, ◌∙◌, subst, arith}
use Rattle.std.specs.Prelude.{is_some, slice_index}
use Rattle.std.specs.List.{All, Contains}
use Rattle.std.proofs.lemmas.Bool.{cases_eq}
use Rattle.mcv_judge.specs.Reason.{LegValue, is_twin}
use Rattle.mcv_picks.specs.Picks.{IsFirstFilling, filling, first_twin, first_with}
use Rattle.mcv_picks.proofs.TwinsAreEqual.{twin_parts}
use Rattle.mcv_gaps.specs.Gaps.{HasServerAt, IsAnsweredBy, IsMissed, IsSizedLeaf}
use Rattle.mcv_gaps.specs.Least.{HasTwin}
use Rattle.mcv_gaps.proofs.Searched.{fills, found, has_at, has_none, inside, not_filled}

module _ (sizes : List ℕ) (legs : List LegValue) (leaf : LegValue) (sized : IsSizedLeaf sizes legs leaf) where
  module _ (i x : ℕ) (within : i < length leaf.servers) (there : slice_index leaf.servers i ≡ x) where
    own_index : i < slice_index sizes leaf.symbol
    own_index = omega (arith, sized.own, within)

    -- a leg of the leaf's own symbol at the index
    pub same_answers : (d : LegValue) → first_with legs leaf.symbol x i ≡ Some d → IsAnsweredBy sizes legs leaf i
    same_answers d h = (
      leaf.symbol,
      inside sizes leaf.symbol i own_index,
      λ j lt one. subst (λ y. HasServerAt legs leaf.symbol j y) (sym there) (subst (λ k. HasServerAt legs leaf.symbol k x) (sym (one refl)) (has_at sizes legs sized.all leaf.symbol x i d h)),
    )

    pub one_answers : (o : Option LegValue) → first_with legs leaf.symbol x i ≡ o → is_some o ≡ true → IsAnsweredBy sizes legs leaf i
    one_answers None is h = absurd cc
    one_answers (Some d) is h = same_answers d is

    -- legs at all indexes of a symbol
    pub all_answer : (s : ℕ) (ds : List LegValue) → filling legs s x ≡ Some ds → IsAnsweredBy sizes legs leaf i
    all_answer s ds h =
        let f = fills sizes legs sized.all s x ds h in
        (s, f.0, λ j lt one. subst (λ y. HasServerAt legs s j y) (sym there) (f.1 j lt))

    -- there are none
    pub none_answer : first_with legs leaf.symbol x i ≡ None → ((s : ℕ) → filling legs s x ≡ None) → IsAnsweredBy sizes legs leaf i → ⊥
    none_answer first all a = elim (cases_eq a.0 leaf.symbol) [
      | inl e ↦
          let low : i < slice_index sizes a.0 = subst (λ s. i < slice_index sizes s) (sym e) own_index in
          let has : HasServerAt legs a.0 i x = subst (λ y. HasServerAt legs a.0 i y) there (a.2 i low (λ _. refl)) in
          has_none sizes legs sized.all leaf.symbol x i first own_index (subst (λ s. HasServerAt legs s i x) e has)
      | inr other ↦
          let some : 0 < slice_index sizes a.0 = sized.some a.0 0 a.1 in
          not_filled sizes legs sized.all a.0 x (all a.0) some (λ j lt. subst (λ y. HasServerAt legs a.0 j y) there (a.2 j lt (λ e. absurd (other e))))
    ]

    -- whether one is picked says whether the leaf is answered for there
    pub decided : (o : Option (List LegValue)) → first_with legs leaf.symbol x i ≡ None → IsFirstFilling legs x o → (is_some o ≡ true → IsAnsweredBy sizes legs leaf i) × (IsAnsweredBy sizes legs leaf i → is_some o ≡ true)
    decided None first all = (λ e. absurd cc, λ a. absurd (none_answer first all a))
    decided (Some ds) first all = (λ _. all_answer all.0 ds all.1, λ _. refl)

  -- a leg with the leaf's symbol and servers answers at each index
  pub twin_answers : HasTwin legs leaf → IsMissed sizes legs leaf → ⊥
  twin_answers t m =
      let low : m.0 < slice_index sizes leaf.symbol = omega (arith, sized.own, m.1) in
      m.2 (
        leaf.symbol,
        inside sizes leaf.symbol m.0 low,
        λ j lt one. record { leg = t.twin; listed = t.listed; own = t.symbol; sends = ap (λ ys. slice_index ys j) t.servers ∙ ap (slice_index leaf.servers) (one refl) },
      )

-- what is found is a twin
pub twin_found : (legs : List LegValue) (leaf d : LegValue) → first_twin legs leaf ≡ Some d → HasTwin legs leaf
twin_found legs leaf d h =
    let f = found (is_twin leaf) legs d h in
    let parts = twin_parts leaf d f.1 in
    record { twin = d; listed = f.0; symbol = parts.0; servers = parts.1 }

pub twin_if : (legs : List LegValue) (leaf : LegValue) (o : Option LegValue) → first_twin legs leaf ≡ o → is_some o ≡ true → HasTwin legs leaf
twin_if legs leaf None is h = absurd cc
twin_if legs leaf (Some d) is h = twin_found legs leaf d is
