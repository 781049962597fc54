-- What a search among legs found, and what it shows that it found nothing.
use Rattle.std.proofs.Common.{◌≡◌, ◌<◌, ◌+◌, ◌&&◌, ℕ, zero, suc, Bool, true, nat_eq, List, [], ◌∷◌, length, get_or, Option, Some, None, inl, inr, ⊎_elim, refl, sym, ap, ◌∙◌, subst, arith, add-zero}
use Rattle.std.specs.Prelude.{find, slice_get, slice_index}
use Rattle.std.specs.Option.{option_and_then}
use Rattle.std.specs.List.{All, Contains}
use Rattle.std.proofs.lemmas.Bool.{and_parts, cases_Bool, eqb-true, eq-eqb}
use Rattle.std.proofs.lemmas.List.Elements.{All-contains}
use Rattle.std.proofs.lemmas.Option.{get_or_from_slice_get, slice_get-get_or, slice_get_within}
use Rattle.mcv_judge.specs.Reason.{LegValue, has_server, is_same_server, server_at}
use Rattle.mcv_picks.specs.Picks.{before_others, each_with, filling, first_with}
use Rattle.mcv_picks.specs.Reasons.{AreSized}
use Rattle.mcv_gaps.specs.Gaps.{HasServerAt}

pub found : {X : Type 0} (p : X → Bool) (xs : List X) (d : X) → find p xs ≡ Some d → Contains xs d × (p d ≡ true)
found p [] d h = absurd cc
found p (x ∷ xs) d h = elim (cases_Bool (p x)) [
  | inl is ↦
      let some : Some x ≡ Some d = rw is at h in
      let one : x ≡ d = cc in
      ((0, omega arith, one), subst (λ y. p y ≡ true) one is)
  | inr isnt ↦ let rest = found p xs d (rw isnt at h) in ((suc rest.0.0, omega (arith, rest.0.1), rest.0.2), rest.1)
]

pub not_found : {X : Type 0} (p : X → Bool) (xs : List X) (d : X) (k : ℕ) → find p xs ≡ None → k < length xs → get_or xs k d ≡ d → p d ≡ true → ⊥
not_found p [] d k h lt e is = absurd (omega arith)
not_found {X} p (x ∷ xs) d zero h lt e is =
    let own : p x ≡ true = ap p e ∙ is in
    let some : ◌≡◌ {A = Option X} (Some x) None = rw own at h in
    absurd cc
not_found {X} p (x ∷ xs) d (suc k) h lt e is = elim (cases_Bool (p x)) [
  | inl was ↦ absurd (let some : ◌≡◌ {A = Option X} (Some x) None = rw was at h in cc)
  | inr wasnt ↦ not_found p xs d k (rw wasnt at h) (omega arith) e is
]

same_there : (o : Option ℕ) (x : ℕ) → is_same_server o (Some x) ≡ true → o ≡ Some x
same_there None x h = absurd cc
same_there (Some y) x h = ap Some (eqb-true y x h)

-- an index of an entry shows that the entry is there
pub inside : (xs : List ℕ) (s i : ℕ) → i < slice_index xs s → s < length xs
inside [] s i h = absurd (omega arith)
inside (x ∷ xs) zero i h = omega arith
inside (x ∷ xs) (suc s) i h = let k : s < length xs = inside xs s i h in omega arith

module _ (sizes : List ℕ) (legs : List LegValue) (sized : AreSized sizes legs) where
  -- a leg of a symbol has as many servers as the symbol has indexes
  pub size_of : (d : LegValue) (s : ℕ) → Contains legs d → d.symbol ≡ s → length d.servers ≡ slice_index sizes s
  size_of d s at e = All-contains (λ (l : LegValue). length l.servers ≡ slice_index sizes l.symbol) legs d sized at ∙ ap (slice_index sizes) e

  -- the leg that was found, at an index of the symbol
  pub found_at : (s x i : ℕ) (d : LegValue) → first_with legs s x i ≡ Some d → Contains legs d × (d.symbol ≡ s) × (slice_get d.servers i ≡ Some x)
  found_at s x i d h =
      let f = found (has_server s (Some x) i) legs d h in
      let both = and_parts (nat_eq d.symbol s) (is_same_server (server_at d i) (Some x)) f.1 in
      (f.0, eqb-true d.symbol s both.0, same_there (server_at d i) x both.1)

  pub has_at : (s x i : ℕ) (d : LegValue) → first_with legs s x i ≡ Some d → HasServerAt legs s i x
  has_at s x i d h =
      let f = found_at s x i d h in
      record { leg = d; listed = f.0; own = f.1; sends = get_or_from_slice_get d.servers i x 0 f.2 }

  pub has_none : (s x i : ℕ) → first_with legs s x i ≡ None → i < slice_index sizes s → HasServerAt legs s i x → ⊥
  has_none s x i h small has =
      let d : LegValue = has.leg in
      let many : length d.servers ≡ slice_index sizes s = size_of d s has.listed has.own in
      let lt : i < length d.servers = omega (arith, many, small) in
      let at : slice_get d.servers i ≡ Some x = slice_get-get_or d.servers i 0 lt ∙ ap Some has.sends in
      let passes : has_server s (Some x) i d ≡ true = rw (eq-eqb d.symbol s has.own, at) (eq-eqb x x refl) in
      not_found (has_server s (Some x) i) legs d has.listed.0 h has.listed.1 has.listed.2 passes

  module _ (s x : ℕ) where
    both_there : (i : ℕ) (o : Option LegValue) (more : Option (List LegValue)) (ds : List LegValue) → first_with legs s x i ≡ o → before_others o more ≡ Some ds → HasServerAt legs s i x × ((es : List LegValue) × (more ≡ Some es))
    both_there i None more ds is h = absurd cc
    both_there i (Some d) None ds is h = absurd cc
    both_there i (Some d) (Some es) ds is h = (has_at s x i d is, (es, refl))

    each_has : (i : ℕ) (ys : List ℕ) (ds : List LegValue) → each_with legs s x i ys ≡ Some ds → (j : ℕ) → j < length ys → HasServerAt legs s (i + j) x
    each_has i [] ds h j lt = absurd (omega arith)
    each_has i (y ∷ ys) ds h zero lt =
        let first = both_there i (first_with legs s x i) (each_with legs s x (suc i) ys) ds refl h in
        let e : i ≡ i + 0 = omega arith in
        subst (λ k. HasServerAt legs s k x) e first.0
    each_has i (y ∷ ys) ds h (suc j) lt =
        let first = both_there i (first_with legs s x i) (each_with legs s x (suc i) ys) ds refl h in
        let e : suc i + j ≡ i + suc j = omega arith in
        subst (λ k. HasServerAt legs s k x) e (each_has (suc i) ys first.1.0 first.1.1 j (omega arith))

    -- what fills the symbol has the server at each of its indexes
    filled_by : (o : Option LegValue) (ds : List LegValue) → first_with legs s x 0 ≡ o → option_and_then (λ d. each_with legs s x 0 d.servers) o ≡ Some ds
        → (s < length sizes) × ((j : ℕ) → j < slice_index sizes s → HasServerAt legs s j x)
    filled_by None ds is h = absurd cc
    filled_by (Some d) ds is h =
        let f = found_at s x 0 d is in
        let many : length d.servers ≡ slice_index sizes s = size_of d s f.0 f.1 in
        let some : 0 < length d.servers = slice_get_within d.servers 0 x f.2 in (
          inside sizes s 0 (omega (arith, many, some)),
          λ j lt. let e : 0 + j ≡ j = omega arith in subst (λ k. HasServerAt legs s k x) e (each_has 0 d.servers ds h j (omega (arith, many, lt))),
        )

    pub fills : (ds : List LegValue) → filling legs s x ≡ Some ds → (s < length sizes) × ((j : ℕ) → j < slice_index sizes s → HasServerAt legs s j x)
    fills ds h = filled_by (first_with legs s x 0) ds refl h

    none_there : (i : ℕ) (o : Option LegValue) (more : Option (List LegValue)) → first_with legs s x i ≡ o → before_others o more ≡ None → i < slice_index sizes s → HasServerAt legs s i x → more ≡ None
    none_there i None more is h lt has = absurd (has_none s x i is lt has)
    none_there i (Some d) None is h lt has = refl
    none_there i (Some d) (Some es) is h lt has = absurd cc

    each_none : (i : ℕ) (ys : List ℕ) → each_with legs s x i ys ≡ None → i + length ys ≡ slice_index sizes s → ((j : ℕ) → j < slice_index sizes s → HasServerAt legs s j x) → ⊥
    each_none i [] h e has = absurd cc
    each_none i (y ∷ ys) h e has =
        let lt : i < slice_index sizes s = omega (arith, e) in
        let rest = none_there i (first_with legs s x i) (each_with legs s x (suc i) ys) refl h lt (has i lt) in
        each_none (suc i) ys rest (omega (arith, e)) has

    not_filled_by : (o : Option LegValue) → first_with legs s x 0 ≡ o → option_and_then (λ d. each_with legs s x 0 d.servers) o ≡ None → 0 < slice_index sizes s
        → ((j : ℕ) → j < slice_index sizes s → HasServerAt legs s j x) → ⊥
    not_filled_by None is h some has = has_none s x 0 is some (has 0 some)
    not_filled_by (Some d) is h some has =
        let f = found_at s x 0 d is in
        let many : length d.servers ≡ slice_index sizes s = size_of d s f.0 f.1 in
        each_none 0 d.servers h (omega (arith, many)) has

    -- where nothing fills the symbol some index hasn't the server
    pub not_filled : filling legs s x ≡ None → 0 < slice_index sizes s → ((j : ℕ) → j < slice_index sizes s → HasServerAt legs s j x) → ⊥
    not_filled h some has = not_filled_by (first_with legs s x 0) refl h some has
