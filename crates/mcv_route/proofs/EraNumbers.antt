-- The eras of routes, by the table of their breaks.
use Rattle.std.proofs.Common.{◌≡◌, ◌≢◌, ◌↔◌, inl, inr, ℕ, zero, suc, ◌+◌, ◌-◌, ◌<◌, List, map, length, get_or, Option, Some, None, option_map, Bor, refl, sym, ap, ◌∙◌, arith}
use Rattle.std.specs.Prelude.{slice_get}
use Rattle.std.specs.Slice.{IsItemAt}
use Rattle.std.proofs.lemmas.Bool.{cases_lt}
use Rattle.std.proofs.lemmas.Option.{slice_get-get_or, slice_get-map, slice_get_past}
use Rattle.mcv_base.specs.declared.request.Moment.{Moment}
use Rattle.mcv_route.proofs.HandleChildren.{borrowed-at}
use Rattle.mcv_route.specs.Eras.{HasEra, IsBreakTable, IsEraOf, breaks_of}
use Rattle.mcv_route.specs.Routes.{RoutesValue}
use Rattle.mcv_route.proofs.BreakTables.{one_table}

module _ (r : RoutesValue) (table : List ℕ) (is : IsBreakTable (breaks_of r) table) where
  has-era : (era : ℕ) → era < length table + 1 → HasEra r era
  has-era zero h = (None, refl)
  has-era (suc k) h =
      let within : k < length table = omega (arith, h) in
      let got : slice_get table k ≡ Some (get_or table k 0) = slice_get-get_or table k 0 within in
      (Some (get_or table k 0), (table, is, got, λ e. cc))

  within-count : (era : ℕ) → HasEra r era → era < length table + 1
  within-count zero h = omega arith
  within-count (suc k) h =
      elim (cases_lt k (length table)) [
        | inl low ↦ omega (arith, low)
        | inr high ↦
            let got : slice_get table k ≡ h.0 = ap (λ x. slice_get x k) (one_table (breaks_of r) table h.1.0 is h.1.1) ∙ h.1.2 in
            absurd (h.1.3 (sym got ∙ slice_get_past table k high))
      ]

  pub counted : (count : ℕ) → count ≡ length table + 1 → (era : ℕ) → (era < count) ↔ HasEra r era
  counted count e era = (λ low. has-era era (omega (arith, low, e)), λ h. let low = within-count era h in omega (arith, low, e))

  opened-after : (k : ℕ) (since : Option ℕ) → since ≡ slice_get table k → HasEra r (suc k) → IsEraOf r (suc k) since
  opened-after k since e h =
      let got : slice_get table k ≡ h.0 = ap (λ x. slice_get x k) (one_table (breaks_of r) table h.1.0 is h.1.1) ∙ h.1.2 in
      (table, is, sym e, λ none. h.1.3 (sym got ∙ sym e ∙ none))

  pub opened_later : (era : ℕ) (since : Option ℕ) → era ≢ 0 → since ≡ slice_get table (era - 1) → HasEra r era → IsEraOf r era since
  opened_later zero since n e h = absurd (n refl)
  opened_later (suc k) since n e h =
      let before : suc k - 1 ≡ k = omega arith in
      opened-after k since (e ∙ ap (slice_get table) before) h

  pub past_the_last : (era : ℕ) → era ≢ 0 → (HasEra r era → ⊥) → slice_get table (era - 1) ≡ None
  past_the_last zero n out = absurd (n refl)
  past_the_last (suc k) n out =
      let before : suc k - 1 ≡ k = omega arith in
      elim (cases_lt k (length table)) [
        | inl low ↦ absurd (out (has-era (suc k) (omega (arith, low))))
        | inr high ↦ ap (slice_get table) before ∙ slice_get_past table k high
      ]

-- ---- breaks, copied from a table in memory

pub none_mapped : (got : Option Moment) → option_map (λ (m : Moment). m.0) got ≡ None → got ≡ None
none_mapped None is = refl
none_mapped (Some m) is = let h : ⊥ = cc in absurd h

fused : (got : Option (Bor Moment)) → option_map (λ (m : Moment). m.0) (option_map (λ (x : Bor Moment). x.now) got) ≡ option_map (λ (x : Bor Moment). x.now.0) got
fused None = refl
fused (Some x) = refl

pub copied_number : (moments : List Moment) (i : ℕ) (got : Option (Bor Moment)) (found : Option Moment) → IsItemAt moments i got → found ≡ option_map (λ (x : Bor Moment). x.now) got → option_map (λ (m : Moment). m.0) found ≡ slice_get (map (λ (m : Moment). m.0) moments) i
copied_number moments i got found at is =
    ap (option_map (λ (m : Moment). m.0)) is ∙ fused got ∙ borrowed-at (λ (m : Moment). m.0) moments i got at ∙ sym (slice_get-map (λ (m : Moment). m.0) moments i)
