-- Which eras are near: by the table of the breaks.
use Rattle.std.proofs.Common.{◌≡◌, ◌≢◌, ◌⊎◌, ◌↔◌, inl, inr, ℕ, zero, suc, ◌+◌, ◌-◌, ◌<◌, ◌≤◌, List, length, get_or, Option, Some, None, refl, sym, ap, ◌∙◌, subst, arith}
use Rattle.std.specs.Prelude.{slice_get}
use Rattle.std.specs.List.{All, AllPairs, Contains}
use Rattle.std.proofs.lemmas.Bool.{cases_lt}
use Rattle.std.proofs.lemmas.List.{get_or_default}
use Rattle.std.proofs.lemmas.List.Elements.{All-contains}
use Rattle.std.proofs.lemmas.List.Kept.{AllPairs-from_increasing}
use Rattle.std.proofs.lemmas.Option.{slice_get-get_or, slice_get_past}
use Rattle.mcv_route.specs.Eras.{HasEra, HaveMomentsWithin, IsBreakTable, IsEraOf, IsNear, IsNearEra, IsSince, MomentsAreNear, NearByBreaks, NearGrows, NearIsSymmetric, breaks_of, since_at}
use Rattle.mcv_route.specs.Routes.{RoutesValue}
use Rattle.mcv_route.proofs.BreakTables.{Up, one_era, one_table, table_exists}
use Rattle.mcv_route.proofs.Breaks.{only-since}
use Rattle.mcv_route.proofs.OpeningBreak.{since_is_last}

module _ (r : RoutesValue) (ns : List ℕ) (t : IsBreakTable (breaks_of r) ns) where
  abbrev bs : List ℕ
  bs = breaks_of r

  up : AllPairs Up ns
  up = AllPairs-from_increasing ns t.rising

  pub level : (i j : ℕ) → i ≤ j → j < length ns → get_or ns i 0 ≤ get_or ns j 0
  level i j le h =
      elim (cases_lt i j) [
        | inl below ↦ let far : get_or ns i 0 < get_or ns j 0 = up i j 0 below h in omega (arith, far)
        | inr above ↦ let same : i ≡ j = omega (arith, le, above) in omega (arith, ap (λ k. get_or ns k 0) same)
      ]

  a_break : (k : ℕ) → k < length ns → Contains bs (get_or ns k 0)
  a_break k h = t.only k 0 h

  -- a break is one of the table
  in_table : (i d : ℕ) → i < length bs → (k : ℕ) × (k < length ns) × (get_or ns k 0 ≡ get_or bs i d)
  in_table i d h =
      let at = t.all i d h in
      (at.0, at.1, get_or_default ns at.0 0 (get_or bs i d) at.1 ∙ at.2)

  -- the break of this number opened the era after it
  pub opened : (k : ℕ) (since : Option ℕ) → IsEraOf r (suc k) since → (k < length ns) × (since ≡ Some (get_or ns k 0))
  opened k since h =
      let got : slice_get ns k ≡ since = ap (λ x. slice_get x k) (one_table bs ns h.0 t h.1) ∙ h.2 in
      elim (cases_lt k (length ns)) [
        | inl low ↦ (low, sym got ∙ slice_get-get_or ns k 0 low)
        | inr high ↦ absurd (h.3 (sym got ∙ slice_get_past ns k high))
      ]

  since_is : (m : ℕ) (since : Option ℕ) → since_at bs m ≡ since → IsSince bs m since
  since_is m since e = subst (IsSince bs m) e (since_is_last bs m)

  -- ---- when an era begins and ends

  pub begins : (k m : ℕ) (since : Option ℕ) → IsEraOf r (suc k) since → since_at bs m ≡ since → get_or ns k 0 ≤ m
  begins k m since o e =
      let is : IsSince bs m (Some (get_or ns k 0)) = since_is m (Some (get_or ns k 0)) (e ∙ (opened k since o).1) in
      is.1

  pub ends : (e m : ℕ) (since : Option ℕ) → IsEraOf r e since → since_at bs m ≡ since → e < length ns → m < get_or ns e 0
  ends zero m since o q h =
      let is : IsSince bs m None = since_is m None (q ∙ o) in
      All-contains (λ b. m < b) bs (get_or ns 0 0) is (a_break 0 h)
  ends (suc k) m since o q h =
      let is : IsSince bs m (Some (get_or ns k 0)) = since_is m (Some (get_or ns k 0)) (q ∙ (opened k since o).1) in
      let below : get_or ns k 0 < get_or ns (suc k) 0 = up k (suc k) 0 (omega arith) h in
      let least : get_or ns (suc k) 0 ≤ m → get_or ns (suc k) 0 ≤ get_or ns k 0 = All-contains (λ b. b ≤ m → b ≤ get_or ns k 0) bs (get_or ns (suc k) 0) is.2 (a_break (suc k) h) in
      elim (cases_lt m (get_or ns (suc k) 0)) [
        | inl less ↦ less
        | inr more ↦ let low = least more in absurd (omega (arith, low, below))
      ]

  -- ---- which era a moment is in

  in_first : (m : ℕ) → 0 < length ns → m < get_or ns 0 0 → since_at bs m ≡ None
  in_first m some low =
      let is : IsSince bs m None =
      λ i d h.
      let at = in_table i d h in
      let from = level 0 at.0 (omega arith) at.1 in
      omega (arith, from, at.2, low) in
      only-since bs m (since_at bs m) None (since_is_last bs m) is

  in_later : (k m : ℕ) → k < length ns → get_or ns k 0 ≤ m → (suc k < length ns → m < get_or ns (suc k) 0) → since_at bs m ≡ Some (get_or ns k 0)
  in_later k m h low high =
      let is : IsSince bs m (Some (get_or ns k 0)) = (
        a_break k h,
        low,
        λ i d inside under.
            let at = in_table i d inside in
            elim (cases_lt k at.0) [
              | inl above ↦
                  let there : suc k < length ns = omega (arith, above, at.1) in
                  let end = high there in
                  let from = level (suc k) at.0 (omega (arith, above)) at.1 in
                  absurd (omega (arith, end, from, at.2, under))
              | inr below ↦ let to = level at.0 k below h in omega (arith, to, at.2)
            ],
      ) in
      only-since bs m (since_at bs m) (Some (get_or ns k 0)) (since_is_last bs m) is

  -- the last moment of an era behind which there is another
  last_moment : (e : ℕ) (since : Option ℕ) → IsEraOf r e since → e < length ns → 0 < get_or ns e 0 → since_at bs (get_or ns e 0 - 1) ≡ since
  last_moment zero since o h some = in_first (get_or ns 0 0 - 1) (omega (arith, h)) (omega (arith, some)) ∙ sym o
  last_moment (suc k) since o h some =
      let at = opened k since o in
      let below : get_or ns k 0 < get_or ns (suc k) 0 = up k (suc k) 0 (omega arith) h in
      in_later k (get_or ns (suc k) 0 - 1) at.0 (omega (arith, below)) (λ _. omega (arith, some)) ∙ sym at.1

  first_moment : (k : ℕ) (since : Option ℕ) → IsEraOf r (suc k) since → since_at bs (get_or ns k 0) ≡ since
  first_moment k since o =
      let at = opened k since o in
      in_later k (get_or ns k 0) at.0 (omega arith) (λ h. up k (suc k) 0 (omega arith) h) ∙ sym at.1

  -- ---- near eras

  apart : (e f : ℕ) (since other : Option ℕ) → e ≤ f → IsEraOf r e since → IsEraOf r (suc f) other → since ≢ other
  apart zero f since other le o p same =
      let none : None ≡ Some (get_or ns f 0) = sym o ∙ same ∙ (opened f other p).1 in
      cc
  apart (suc k) f since other le o p same =
      let at = opened f other p in
      let one : Some (get_or ns k 0) ≡ Some (get_or ns f 0) = sym (opened k since o).1 ∙ same ∙ at.1 in
      let is : get_or ns k 0 ≡ get_or ns f 0 = cc in
      let below : get_or ns k 0 < get_or ns f 0 = up k f 0 (omega (arith, le)) at.0 in
      omega (arith, is, below)

  module _ (w e f : ℕ) (since other : Option ℕ) (le : e ≤ f) (o : IsEraOf r e since) (p : IsEraOf r (suc f) other) where
    inside : f < length ns
    inside = (opened f other p).0

    near_numbers : IsNear r w since other → (0 < get_or ns e 0) × (get_or ns f 0 < get_or ns e 0 + w)
    near_numbers (inl same) = absurd (apart e f since other le o p same)
    near_numbers (inr h) =
        let end : h.moment < get_or ns e 0 = ends e h.moment since o h.in_one (omega (arith, inside, le)) in
        let start : get_or ns f 0 ≤ h.another = begins f h.another other p h.in_other in
        let later = h.after in
        (omega (arith, end), omega (arith, end, start, later))

    numbers_near : (0 < get_or ns e 0) × (get_or ns f 0 < get_or ns e 0 + w) → IsNear r w since other
    numbers_near h =
        let low : get_or ns e 0 ≤ get_or ns f 0 = level e f le inside in
        let some = h.0 in
        let less = h.1 in
        inr (record {
          moment = get_or ns e 0 - 1;
          another = get_or ns f 0;
          in_one = last_moment e since o (omega (arith, inside, le)) some;
          in_other = first_moment f other p;
          after = omega (arith, some, less);
          before = omega (arith, low);
        })

pub near_by_breaks : NearByBreaks
near_by_breaks r table w e f since other t le o p = (near_numbers r table t w e f since other le o p, numbers_near r table t w e f since other le o p)

-- ---- near eras, by any breaks

pub near_itself : (r : RoutesValue) (w : ℕ) (since : Option ℕ) → IsNear r w since since
near_itself r w since = inl refl

pub near_turned : (r : RoutesValue) (w : ℕ) (since other : Option ℕ) → IsNear r w since other → IsNear r w other since
near_turned r w since other (inl same) = inl (sym same)
near_turned r w since other (inr h) = inr (record { moment = h.another; another = h.moment; in_one = h.in_other; in_other = h.in_one; after = h.before; before = h.after })

pub near_is_symmetric : NearIsSymmetric
near_is_symmetric r w since other = (near_itself r w since, near_turned r w since other)

at_once : (r : RoutesValue) (since other : Option ℕ) → IsNear r 0 since other → since ≡ other
at_once r since other (inl same) = same
at_once r since other (inr h) =
    let after = h.after in
    let before = h.before in
    let same : h.moment ≡ h.another = omega (arith, after, before) in
    sym h.in_one ∙ ap (since_at (breaks_of r)) same ∙ h.in_other

wider : (r : RoutesValue) (w v : ℕ) (since other : Option ℕ) → w ≤ v → IsNear r w since other → IsNear r v since other
wider r w v since other le (inl same) = inl same
wider r w v since other le (inr h) =
    let after = h.after in
    let before = h.before in
    inr (record { moment = h.moment; another = h.another; in_one = h.in_one; in_other = h.in_other; after = omega (arith, after, le); before = omega (arith, before, le) })

pub near_grows : NearGrows
near_grows r w v since other = (at_once r since other, wider r w v since other)

pub moments_are_near : MomentsAreNear
moments_are_near r w m n after before = inr (record { moment = m; another = n; in_one = refl; in_other = refl; after = after; before = before })

-- ---- near eras are neighbours

pub number_near : (r : RoutesValue) (w era other : ℕ) (since read : Option ℕ) → IsEraOf r era since → IsEraOf r other read → IsNearEra r w era other → IsNear r w since read
number_near r w era other since read o p h = subst (λ s. IsNear r w s read) (one_era r era h.0 since h.2 o) (subst (λ s. IsNear r w h.0 s) (one_era r other h.1 read h.3 p) h.4)

pub near_number : (r : RoutesValue) (w era other : ℕ) (since read : Option ℕ) → IsEraOf r era since → IsEraOf r other read → IsNear r w since read → IsNearEra r w era other
near_number r w era other since read o p h = (since, read, o, p, h)

module _ (r : RoutesValue) (ns : List ℕ) (t : IsBreakTable (breaks_of r) ns) (w : ℕ) where
  -- an era between two near ones is near both
  pub between : (e g f : ℕ) → e ≤ g → g ≤ f → HasEra r g → IsNearEra r w e f → IsNearEra r w e g × IsNearEra r w g f
  between e zero zero lo hi h n =
      let same : e ≡ 0 = omega (arith, lo) in
      (subst (λ k. IsNearEra r w k 0) (sym same) (subst (λ k. IsNearEra r w k 0) same n), subst (λ k. IsNearEra r w k 0) same n)
  between e zero (suc f) lo hi h n =
      let same : e ≡ 0 = omega (arith, lo) in
      let own : IsNearEra r w 0 0 = (h.0, h.0, h.1, h.1, near_itself r w h.0) in
      (subst (λ k. IsNearEra r w k 0) (sym same) own, subst (λ k. IsNearEra r w k (suc f)) same n)
  between e (suc g) zero lo hi h n = absurd (omega (arith, hi))
  between e (suc g) (suc f) lo hi h n =
      elim (cases_lt e (suc g)) [
        | inr high ↦
            let same : e ≡ suc g = omega (arith, lo, high) in
            let own : IsNearEra r w (suc g) (suc g) = (h.0, h.0, h.1, h.1, near_itself r w h.0) in
            (subst (λ k. IsNearEra r w k (suc g)) (sym same) own, subst (λ k. IsNearEra r w k (suc f)) same n)
        | inl low ↦
            let far = near_numbers r ns t w e f n.0 n.1 (omega (arith, low, hi)) n.2 n.3 n.4 in
            let within : f < length ns = (opened r ns t f n.1 n.3).0 in
            let some = far.0 in
            let reach = far.1 in
            let up_to : get_or ns g 0 ≤ get_or ns f 0 = level r ns t g f (omega (arith, hi)) within in
            let one : IsNearEra r w e (suc g) = (n.0, h.0, n.2, h.1, numbers_near r ns t w e g n.0 h.0 (omega (arith, low)) n.2 h.1 (some, omega (arith, up_to, reach))) in
            elim (cases_lt (suc g) (suc f)) [
              | inr over ↦
                  let same : suc g ≡ suc f = omega (arith, hi, over) in
                  let own : IsNearEra r w (suc g) (suc g) = (h.0, h.0, h.1, h.1, near_itself r w h.0) in
                  (one, subst (λ k. IsNearEra r w (suc g) k) same own)
              | inl under ↦
                  let from : get_or ns e 0 ≤ get_or ns (suc g) 0 = level r ns t e (suc g) (omega (arith, lo)) (omega (arith, under, within)) in
                  (one, (h.0, n.1, h.1, n.3, numbers_near r ns t w (suc g) f h.0 n.1 (omega (arith, under)) h.1 n.3 (omega (arith, some, from), omega (arith, from, reach))))
            ]
      ]

-- ---- an era has one number

not_later : (r : RoutesValue) (e f : ℕ) (since : Option ℕ) → e < f → IsEraOf r e since → IsEraOf r f since → ⊥
not_later r e zero since low o p = omega (arith, low)
not_later r e (suc f) since low o p =
    let t = table_exists (breaks_of r) in
    let le : e ≤ f = omega (arith, low) in
    let less = ((near_by_breaks r t.0 0 e f since since t.1 le o p).0 (inl refl)).1 in
    let up : get_or t.0 e 0 ≤ get_or t.0 f 0 = level r t.0 t.1 e f le (opened r t.0 t.1 f since p).0 in
    omega (arith, up, less)

pub one_number : (r : RoutesValue) (e f : ℕ) (since : Option ℕ) → IsEraOf r e since → IsEraOf r f since → e ≡ f
one_number r e f since o p =
    elim (cases_lt e f) [
      | inl low ↦ absurd (not_later r e f since low o p)
      | inr high ↦ elim (cases_lt f e) [
        | inl low ↦ absurd (not_later r f e since low p o)
        | inr over ↦ omega (arith, high, over)
      ]
    ]
