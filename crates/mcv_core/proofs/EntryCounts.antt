-- How many entries pass a test.
use Rattle.std.proofs.Common.{◌≡◌, ◌⊎◌, ◌&&◌, ◌||◌, not, cond, inl, inr, ℕ, zero, suc, ◌+◌, ◌<◌, ◌≤◌, Bool, true, false, nat_eq, List, [], ◌∷◌, length, Some, refl, sym, ap, ◌∙◌, arith}
use Rattle.std.specs.Prelude.{filter, slice_get}
use Rattle.std.specs.List.{list_all}
use Rattle.std.proofs.lemmas.Bool.{cases_Bool, eq-eqb, ne_eqb}
use Rattle.mcv_route.specs.declared.launch.Launch.{Launch}
use Rattle.mcv_world.proofs.Numbers.{same_some, no_some}

abbrev pub count : (Launch → Bool) → List Launch → ℕ
count f es = length (filter f es)

pub count_cons : (f : Launch → Bool) (l : Launch) (es : List Launch) → count f (l ∷ es) ≡ cond (f l) (suc (count f es)) (count f es)
count_cons f l es = by_cases (f l)
  where
    by_cases : (b : Bool) → length (cond b (l ∷ filter f es) (filter f es)) ≡ cond b (suc (count f es)) (count f es)
    by_cases true = refl
    by_cases false = refl

pub count_yes : (f : Launch → Bool) (l : Launch) (es : List Launch) → f l ≡ true → count f (l ∷ es) ≡ suc (count f es)
count_yes f l es t = count_cons f l es ∙ ap (λ b. cond b (suc (count f es)) (count f es)) t

pub count_no : (f : Launch → Bool) (l : Launch) (es : List Launch) → f l ≡ false → count f (l ∷ es) ≡ count f es
count_no f l es t = count_cons f l es ∙ ap (λ b. cond b (suc (count f es)) (count f es)) t

pub count_at_most : (f : Launch → Bool) (es : List Launch) → count f es ≤ length es
count_at_most f [] = omega arith
count_at_most f (l ∷ es) =
    let q = count_at_most f es in
    elim (cases_Bool (f l)) [
      | inl t ↦ let e = count_yes f l es t in omega (arith, q, e)
      | inr t ↦ let e = count_no f l es t in omega (arith, q, e)
    ]

-- one that doesn't pass is there
pub count_below : (f : Launch → Bool) (es : List Launch) (i : ℕ) (l : Launch) → slice_get es i ≡ Some l → f l ≡ false → count f es < length es
count_below f [] i l at fails = no_some at
count_below f (m ∷ es) zero l at fails = let q = count_at_most f es in let e = count_no f m es (ap f (same_some at) ∙ fails) in omega (arith, q, e)
count_below f (m ∷ es) (suc i) l at fails =
    let q = count_below f es i l at fails in
    elim (cases_Bool (f m)) [
      | inl t ↦ let e = count_yes f m es t in omega (arith, q, e)
      | inr t ↦ let e = count_no f m es t in omega (arith, q, e)
    ]

pub count_alike : (f g : Launch → Bool) (es : List Launch) → ((i : ℕ) (l : Launch) → slice_get es i ≡ Some l → f l ≡ g l) → count f es ≡ count g es
count_alike f g [] h = refl
count_alike f g (l ∷ es) h = count_cons f l es ∙ ap (λ b. cond b (suc (count f es)) (count f es)) (h 0 l refl) ∙ ap (λ n. cond (g l) (suc n) n) (count_alike f g es (λ i m at. h (suc i) m at)) ∙ sym (count_cons g l es)

-- those that pass the second test, and not the first, which implies it
pub count_more : (f g : Launch → Bool) (es : List Launch) → ((l : Launch) → f l ≡ true → g l ≡ true) → count g es ≡ count f es + count (λ l. g l && not (f l)) es
count_more f g [] h = omega arith
count_more f g (l ∷ es) h =
    let q = count_more f g es h in
    elim (cases_Bool (f l)) [
      | inl t ↦
          let a = count_yes f l es t in
          let b = count_yes g l es (h l t) in
          let c = count_no (λ l. g l && not (f l)) l es (ap (λ v. v && not (f l)) (h l t) ∙ ap not t) in
          omega (arith, q, a, b, c)
      | inr t ↦
          let a = count_no f l es t in
          elim (cases_Bool (g l)) [
            | inl u ↦
                let b = count_yes g l es u in
                let c = count_yes (λ l. g l && not (f l)) l es (ap (λ v. v && not (f l)) u ∙ ap not t) in
                omega (arith, q, a, b, c)
            | inr u ↦
                let b = count_no g l es u in
                let c = count_no (λ l. g l && not (f l)) l es (ap (λ v. v && not (f l)) u) in
                omega (arith, q, a, b, c)
          ]
    ]

-- one more passes
pub count_one_more : (f g : Launch → Bool) (es : List Launch) (i : ℕ) (l : Launch) → slice_get es i ≡ Some l → f l ≡ false → g l ≡ true
    → ((j : ℕ) (m : Launch) → slice_get es j ≡ Some m → (i ≡ j → ⊥) → f m ≡ g m) → count g es ≡ suc (count f es)
count_one_more f g [] i l at fails passes others = no_some at
count_one_more f g (m ∷ es) zero l at fails passes others =
    let a = count_no f m es (ap f (same_some at) ∙ fails) in
    let b = count_yes g m es (ap g (same_some at) ∙ passes) in
    let c = count_alike f g es (λ j k here. others (suc j) k here (λ q. omega (arith, q))) in
    omega (arith, a, b, c)
count_one_more f g (m ∷ es) (suc i) l at fails passes others =
    let q = count_one_more f g es i l at fails passes (λ j k here ne. others (suc j) k here (λ e. ne (omega (arith, e)))) in
    let same = others 0 m refl (λ q. omega (arith, q)) in
    elim (cases_Bool (f m)) [
      | inl t ↦
          let a = count_yes f m es t in
          let b = count_yes g m es (sym same ∙ t) in
          omega (arith, q, a, b)
      | inr t ↦
          let a = count_no f m es t in
          let b = count_no g m es (sym same ∙ t) in
          omega (arith, q, a, b)
    ]

-- ---- all that pass the second test pass the first one

pub count_up : (f g : Launch → Bool) (es : List Launch) → ((l : Launch) → f l ≡ true → g l ≡ true) → count f es ≤ count g es
count_up f g es h = let q = count_more f g es h in omega (arith, q)

abbrev Counted : (Launch → Bool) → (Launch → Bool) → List Launch → Type 0
Counted f g es = ((list_all (λ l. not (g l) || f l) es ≡ true) × (count f es ≡ count g es)) ⊎ ((list_all (λ l. not (g l) || f l) es ≡ false) × (count f es < count g es))

counted : (f g : Launch → Bool) (es : List Launch) → ((l : Launch) → f l ≡ true → g l ≡ true) → Counted f g es
counted f g [] h = inl (refl, refl)
counted f g (l ∷ es) h =
    let all = λ (b : Bool). b && list_all (λ l. not (g l) || f l) es in
    let up = count_up f g es h in
    elim (cases_Bool (f l)) [
      | inl t ↦
          let a = count_yes f l es t in
          let b = count_yes g l es (h l t) in
          let test : (not (g l) || f l) ≡ true = ap (λ v. not v || f l) (h l t) ∙ t in
          elim (counted f g es h) [
            | inl q ↦ let n = q.1 in inl (ap all test ∙ q.0, omega (arith, a, b, n))
            | inr q ↦ let n = q.1 in inr (ap all test ∙ q.0, omega (arith, a, b, n))
          ]
      | inr t ↦
          let a = count_no f l es t in
          elim (cases_Bool (g l)) [
            | inl u ↦
                let b = count_yes g l es u in
                let test : (not (g l) || f l) ≡ false = ap (λ v. not v || f l) u ∙ t in
                inr (ap all test, omega (arith, a, b, up))
            | inr u ↦
                let b = count_no g l es u in
                let test : (not (g l) || f l) ≡ true = ap (λ v. not v || f l) u in
                elim (counted f g es h) [
                  | inl q ↦ let n = q.1 in inl (ap all test ∙ q.0, omega (arith, a, b, n))
                  | inr q ↦ let n = q.1 in inr (ap all test ∙ q.0, omega (arith, a, b, n))
                ]
          ]
    ]

pub all_by_count : (f g : Launch → Bool) (es : List Launch) → ((l : Launch) → f l ≡ true → g l ≡ true) → list_all (λ l. not (g l) || f l) es ≡ nat_eq (count f es) (count g es)
all_by_count f g es h =
    elim (counted f g es h) [
      | inl q ↦ q.0 ∙ sym (eq-eqb (count f es) (count g es) q.1)
      | inr q ↦ let n = q.1 in q.0 ∙ sym (ne_eqb (count f es) (count g es) (λ e. omega (arith, e, n)))
    ]

pub count_both : (f : Launch → Bool) (es : List Launch) → count f es + count (λ l. not (f l)) es ≡ length es
count_both f [] = refl
count_both f (l ∷ es) =
    let q = count_both f es in
    elim (cases_Bool (f l)) [
      | inl t ↦
          let a = count_yes f l es t in
          let b = count_no (λ m. not (f m)) l es (ap not t) in
          omega (arith, q, a, b)
      | inr t ↦
          let a = count_no f l es t in
          let b = count_yes (λ m. not (f m)) l es (ap not t) in
          omega (arith, q, a, b)
    ]
