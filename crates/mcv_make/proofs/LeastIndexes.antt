-- The least indexes that aren't taken.
use Rattle.std.proofs.Common.{◌≡◌, ◌⊎◌, inl, inr, ℕ, zero, suc, ◌+◌, ◌<◌, ◌≤◌, Bool, true, false, List, [], ◌∷◌, Some, sym, ap, ◌∙◌, subst, arith, true≢false}
use Rattle.std.specs.Prelude.{if◌then◌else◌, slice_get, slice_index}
use Rattle.std.proofs.lemmas.Bool.{cases_Bool, cases_eq, eq-eqb, ne_eqb}
use Rattle.std.proofs.lemmas.Option.{none-some, same_Some}
use Rattle.mcv_pools.specs.Symbol.{SymbolValue}
use Rattle.mcv_rules.specs.declared.plan.PlannedLeg.{PlannedLeg}
use Rattle.mcv_make.specs.FreeIndexes.{free_index, free_indexes, is_taken, least_free}

-- ---- one symbol

-- an index that isn't taken, or all are
pub free-or-full : (taken : ℕ → Bool) (n : ℕ) → ((j : ℕ) × (j < n) × (taken j ≡ false)) ⊎ ((j : ℕ) → j < n → taken j ≡ true)
free-or-full taken zero = inr (λ j low. absurd (omega (arith, low)))
free-or-full taken (suc n) =
    elim (free-or-full taken n) [
      | inl h ↦ inl (h.0, omega (arith, h.1), h.2)
      | inr h ↦
          elim (cases_Bool (taken n)) [
            | inl is ↦ inr (λ j low. elim (cases_eq j n) [ inl e ↦ ap taken e ∙ is | inr ne ↦ h j (omega (arith, low, ne)) ])
            | inr free ↦ inl (n, omega arith, free)
          ]
    ]

-- where an index isn't taken, the least one is found
pub found-free : (taken : ℕ → Bool) (n from j : ℕ) → from ≤ j → j < from + n → taken j ≡ false → (least_free taken from n < from + n) × (taken (least_free taken from n) ≡ false)
found-free taken zero from j low high e = absurd (omega (arith, low, high))
found-free taken (suc n) from j low high e =
    elim (cases_Bool (taken from)) [
      | inl is ↦
          elim (cases_eq from j) [
            | inl same ↦ absurd (true≢false (sym is ∙ ap taken same ∙ e))
            | inr other ↦
                let later = found-free taken n (suc from) j (omega (arith, low, other)) (omega (arith, high)) e in
                let here : least_free taken from (suc n) ≡ least_free taken (suc from) n = ap (λ b. if b then least_free taken (suc from) n else from) is in
                (subst (λ k. k < from + suc n) (sym here) (omega (arith, later.0)), ap taken here ∙ later.1)
          ]
      | inr free ↦
          let here : least_free taken from (suc n) ≡ from = ap (λ b. if b then least_free taken (suc from) n else from) free in
          (subst (λ k. k < from + suc n) (sym here) (omega arith), ap taken here ∙ free)
    ]

-- ---- all symbols

pub index-at : (legs : List PlannedLeg) (x own at k : ℕ) (symbols : List SymbolValue) (s : ℕ) (symbol : SymbolValue) → slice_get symbols s ≡ Some symbol → slice_index (free_indexes legs x own at k symbols) s ≡ free_index legs x own at (k + s) symbol.n
index-at legs x own at k [] s symbol e = absurd (none-some symbol e)
index-at legs x own at k (y ∷ symbols) zero symbol e =
    let same : k ≡ k + 0 = omega arith in
    ap (λ (z : SymbolValue). free_index legs x own at k z.n) (same_Some y symbol e) ∙ ap (λ i. free_index legs x own at i symbol.n) same
index-at legs x own at k (y ∷ symbols) (suc s) symbol e =
    let same : suc k + s ≡ k + suc s = omega arith in
    index-at legs x own at (suc k) symbols s symbol e ∙ ap (λ i. free_index legs x own at i symbol.n) same

pub own-index : (legs : List PlannedLeg) (x own at s n : ℕ) → s ≡ own → free_index legs x own at s n ≡ at
own-index legs x own at s n e = ap (λ b. if b then at else least_free (is_taken legs x s) 0 n) (eq-eqb s own e)

pub other-index : (legs : List PlannedLeg) (x own at s n : ℕ) → (s ≡ own → ⊥) → free_index legs x own at s n ≡ least_free (is_taken legs x s) 0 n
other-index legs x own at s n e = ap (λ b. if b then at else least_free (is_taken legs x s) 0 n) (ne_eqb s own e)
