-- Leaving out, one after another, what isn't needed.
use Rattle.std.proofs.Common.{◌≡◌, ◌<◌, ◌+◌, ◌⊎◌, inl, inr, ⊎_elim, ℕ, zero, suc, List, [], ◌∷◌, ◌++◌, length, take, drop, refl, sym, ap, ◌∙◌, subst, append_assoc, length-append, arith}
use Rattle.std.specs.Prelude.{remove}
use Rattle.std.specs.List.{Contains}
use Rattle.std.proofs.lemmas.List.Elements.{Contains-append_cases, Contains-append_left, Contains-append_right}
use Rattle.std.proofs.lemmas.Bool.{cases_lt}

remove-front : {A : Type 0} (xs ys : List A) (k : ℕ) → k < length xs → remove (xs ++ ys) k ≡ remove xs k ++ ys
remove-front [] ys k lt = absurd (omega arith)
remove-front (x ∷ xs) ys zero lt = refl
remove-front (x ∷ xs) ys (suc k) lt = ap (λ zs. x ∷ zs) (remove-front xs ys k (omega arith))

remove-last : {A : Type 0} (xs : List A) (x : A) → remove (xs ++ x ∷ []) (length xs) ≡ xs
remove-last [] x = refl
remove-last (y ∷ xs) x = ap (λ zs. y ∷ zs) (remove-last xs x)

-- each member of the first list is one of the second
abbrev pub AreAmong : {A : Type 0} → List A → List A → Type 0
AreAmong {A} xs ys = (x : A) → Contains xs x → Contains ys x

module _ {A : Type 0} (Gap : List A → Type 0) (fewer : (xs ys : List A) → AreAmong xs ys → Gap ys → Gap xs) where
  -- there is no gap with what is kept and what isn't looked at yet, and there is one without any of what is kept
  pub record IsPartly (kept rest : List A) : Type 0 where
    pub enough : Gap (kept ++ rest) → ⊥
    pub each : (k : ℕ) → k < length kept → Gap (remove kept k ++ rest)

  pub begun : (all : List A) → (Gap all → ⊥) → IsPartly [] all
  begun all none = record { enough = none; each = λ k lt. absurd (omega arith) }

  pub keeps : (kept : List A) (x : A) (rest : List A) → IsPartly kept (x ∷ rest) → Gap (kept ++ rest) → IsPartly (kept ++ x ∷ []) rest
  keeps kept x rest h gap = record {
    enough = λ g. h.enough (subst Gap (append_assoc kept (x ∷ []) rest) g);
    each = λ k lt. by k (cases k lt);
  }
    where
      cases : (k : ℕ) → k < length (kept ++ x ∷ []) → (k < length kept) ⊎ (k ≡ length kept)
      cases k lt = elim (cases_lt k (length kept)) [
        | inl below ↦ inl below
        | inr above ↦ inr (omega (arith, length-append kept (x ∷ []), lt))
      ]

      by : (k : ℕ) → (k < length kept) ⊎ (k ≡ length kept) → Gap (remove (kept ++ x ∷ []) k ++ rest)
      by k (inl lt) = subst Gap (sym (ap (λ xs. xs ++ rest) (remove-front kept (x ∷ []) k lt) ∙ append_assoc (remove kept k) (x ∷ []) rest)) (h.each k lt)
      by k (inr e) = subst (λ i. Gap (remove (kept ++ x ∷ []) i ++ rest)) (sym e) (subst (λ xs. Gap (xs ++ rest)) (sym (remove-last kept x)) gap)

  without : (front : List A) (x : A) (rest : List A) → AreAmong (front ++ rest) (front ++ x ∷ rest)
  without front x rest y at = ⊎_elim (Contains-append_left front (x ∷ rest) y) (λ i. Contains-append_right front (x ∷ rest) y (behind i)) (Contains-append_cases front rest y at)
    where
      behind : Contains rest y → Contains (x ∷ rest) y
      behind i = (suc i.0, omega (arith, i.1), i.2)

  pub leaves_out : (kept : List A) (x : A) (rest : List A) → IsPartly kept (x ∷ rest) → (Gap (kept ++ rest) → ⊥) → IsPartly kept rest
  leaves_out kept x rest h none = record { enough = none; each = λ k lt. fewer (remove kept k ++ rest) (remove kept k ++ x ∷ rest) (without (remove kept k) x rest) (h.each k lt) }
