-- Lists that rise are determined by their members.
use Rattle.std.proofs.Common.{◌≡◌, ◌⊎◌, ℕ, zero, suc, ◌<◌, inl, inr, List, [], ◌∷◌, length, get_or, refl, sym, ap, ◌∙◌, subst, arith}
use Rattle.std.specs.List.{AllPairs, Contains}
use Rattle.std.specs.Ordering.{ordering_reverse}
use Rattle.std.specs.declared.cmp.Ordering.{Ordering}
use Rattle.std.specs.declared.cmp.Ordering.TheVariants.{Less, Greater}
use Rattle.std.proofs.lemmas.List.Elements.{Contains-append_right}

-- the first, or one behind it
pub first_or_behind : {X : Type 0} (x : X) (xs : List X) (y : X) → Contains (x ∷ xs) y → (x ≡ y) ⊎ Contains xs y
first_or_behind x xs y at = by at.0 at.1 at.2
  where
    by : (k : ℕ) → k < length (x ∷ xs) → get_or (x ∷ xs) k y ≡ y → (x ≡ y) ⊎ Contains xs y
    by zero low is = inl is
    by (suc k) low is = inr (k, omega (arith, low), is)

pub behind_first : {X : Type 0} (x : X) (xs : List X) (y : X) → Contains xs y → Contains (x ∷ xs) y
behind_first x xs y at = Contains-append_right (x ∷ []) xs y at

pub at_first : {X : Type 0} (x : X) (xs : List X) (y : X) → x ≡ y → Contains (x ∷ xs) y
at_first x xs y is = (0, omega arith, is)

pub none_there : {X : Type 0} (y : X) → Contains [] y → ⊥
none_there y at = omega (arith, at.1)

module _ {X : Type 0} (R : X → X → Type 0) where
  pub above_first : (x : X) (xs : List X) (y : X) → AllPairs R (x ∷ xs) → Contains xs y → R x y
  above_first x xs y up at = subst (R x) at.2 (up 0 (suc at.0) y (omega arith) (omega (arith, at.1)))

  pub rises_behind : (x : X) (xs : List X) → AllPairs R (x ∷ xs) → AllPairs R xs
  rises_behind x xs up i j d low high = up (suc i) (suc j) d (omega (arith, low)) (omega (arith, high))

  -- of two members neither of which comes before the other, both are one
  pub one_of : (xs : List X) (x y : X) → AllPairs R xs → Contains xs x → Contains xs y → (R x y → ⊥) → (R y x → ⊥) → x ≡ y
  one_of [] x y up at also lower higher = absurd (none_there x at)
  one_of (z ∷ zs) x y up at also lower higher =
      elim (first_or_behind z zs x at) [
        | inl e ↦
            elim (first_or_behind z zs y also) [
              | inl f ↦ sym e ∙ f
              | inr g ↦ absurd (lower (subst (λ w. R w y) e (above_first z zs y up g)))
            ]
        | inr h ↦
            elim (first_or_behind z zs y also) [
              | inl f ↦ absurd (higher (subst (λ w. R w x) f (above_first z zs x up h)))
              | inr g ↦ one_of zs x y (rises_behind z zs up) h g lower higher
            ]
      ]

  module _ (one_way : (x y : X) → R x y → R y x → ⊥) where
    first_same : (x : X) (xs : List X) (y : X) (ys : List X) → AllPairs R (x ∷ xs) → AllPairs R (y ∷ ys) → Contains (y ∷ ys) x → Contains (x ∷ xs) y → x ≡ y
    first_same x xs y ys up over has had =
        elim (first_or_behind y ys x has) [
          | inl e ↦ sym e
          | inr h ↦
              elim (first_or_behind x xs y had) [
                | inl e ↦ e
                | inr g ↦ absurd (one_way x y (above_first x xs y up g) (above_first y ys x over h))
              ]
        ]

    later : (x : X) (xs : List X) (y : X) (ys : List X) → AllPairs R (x ∷ xs) → x ≡ y → ((z : X) → Contains (x ∷ xs) z → Contains (y ∷ ys) z) → (z : X) → Contains xs z → Contains ys z
    later x xs y ys up same has z at =
        elim (first_or_behind y ys z (has z (behind_first x xs z at))) [
          | inl e ↦
              let own : R x x = subst (R x) (sym (same ∙ e)) (above_first x xs z up at) in
              absurd (one_way x x own own)
          | inr h ↦ h
        ]

    pub rising_same : (xs ys : List X) → AllPairs R xs → AllPairs R ys → ((z : X) → Contains xs z → Contains ys z) → ((z : X) → Contains ys z → Contains xs z) → xs ≡ ys
    rising_same [] [] up over has had = refl
    rising_same [] (y ∷ ys) up over has had = absurd (none_there y (had y (at_first y ys y refl)))
    rising_same (x ∷ xs) [] up over has had = absurd (none_there x (has x (at_first x xs x refl)))
    rising_same (x ∷ xs) (y ∷ ys) up over has had =
        let same = first_same x xs y ys up over (has x (at_first x xs x refl)) (had y (at_first y ys y refl)) in
        let rest = rising_same xs ys (rises_behind x xs up) (rises_behind y ys over) (later x xs y ys up same has) (later y ys x xs over (sym same) had) in
        λ i. same i ∷ rest i

-- two comparisons of which each is the other turned round
pub not_both : (x y : Ordering) → x ≡ ordering_reverse y → x ≡ Less → y ≡ Less → ⊥
not_both x y turned less also = let e : Less ≡ Greater = sym less ∙ turned ∙ ap ordering_reverse also in cc
