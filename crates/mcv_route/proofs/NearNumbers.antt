-- How the code finds which eras are near.
use Rattle.std.proofs.Common.{◌≡◌, ◌≢◌, ◌↔◌, inl, inr, ℕ, zero, suc, ◌+◌, ◌-◌, ◌<◌, ◌≤◌, Bool, List, length, map, get_or, Option, Some, None, Bor, IsTrue, true, false, true≢false, refl, sym, ap, ◌∙◌, subst, arith}
use Rattle.std.specs.Slice.{IsItemAt}
use Rattle.std.proofs.lemmas.Bool.{cases_lt}
use Rattle.std.proofs.lemmas.List.{get_or-map, length-map}
use Rattle.mcv_base.specs.declared.request.Moment.{Moment}
use Rattle.mcv_route.specs.Eras.{AreNearEras, HasEra, IsBreakTable, IsEraOf, IsNear, IsNearEra, breaks_of}
use Rattle.mcv_route.specs.Routes.{RoutesValue}
use Rattle.mcv_route.proofs.BreakTables.{one_era, table_exists}
use Rattle.mcv_route.proofs.EraNumbers.{counted}
use Rattle.mcv_route.proofs.NearBreaks.{between, level, near_by_breaks, near_itself, near_number, near_turned, number_near, opened}

abbrev number : Moment → ℕ
number m = m.0

module _ (r : RoutesValue) (moments : List Moment) (t : IsBreakTable (breaks_of r) (map number moments)) where
  abbrev ns : List ℕ
  ns = map number moments

  pub past : (k : ℕ) (read : Option ℕ) → IsItemAt moments k None → IsEraOf r (suc k) read → ⊥
  past k read h p =
      let low : k < length ns = (opened r ns t k read p).0 in
      let high : length moments ≤ k = h.3 in
      omega (arith, low, high, length-map moments number)

  number_at : (k : ℕ) (d : Moment) → k < length moments → number (get_or moments k d) ≡ get_or ns k 0
  number_at k d h = sym (get_or-map number moments k d 0 h)

  item_is : (k : ℕ) (x : Bor Moment) → IsItemAt moments k (Some x) → (k < length moments) × (number x.now ≡ get_or ns k 0)
  item_is k x h = (h.3.0, ap number h.1 ∙ number_at k x.now h.3.0)

  module _ (e f : ℕ) (d : Moment) (x : Bor Moment) (le : e ≤ f) (at : IsItemAt moments f (Some x)) where
    within : e < length moments
    within = let low = (item_is f x at).0 in omega (arith, low, le)

    pub in_turn : number (get_or moments e d) ≤ number x.now
    in_turn =
        let i = item_is f x at in
        let low = i.0 in
        let up : get_or ns e 0 ≤ get_or ns f 0 = level r ns t e f le (omega (arith, low, length-map moments number)) in
        omega (arith, up, i.1, number_at e d within)

    pub decided : (w : ℕ) (b : Bool) → IsTrue b ↔ (0 < number (get_or moments e d)) × (number x.now < number (get_or moments e d) + w) → (since read : Option ℕ) → IsEraOf r e since → IsEraOf r (suc f) read → IsTrue b ↔ IsNear r w since read
    decided w b h since read o p =
        let n = near_by_breaks r ns w e f since read t le o p in
        let end = number_at e d within in
        let start = (item_is f x at).1 in (
          λ g. let k = h.0 g in let some = k.0 in let less = k.1 in n.1 (omega (arith, some, end), omega (arith, less, end, start)),
          λ g. let k = n.0 g in let some = k.0 in let less = k.1 in h.1 (omega (arith, some, end), omega (arith, less, end, start)),
        )

-- ---- by two numbers

one_more : (n : ℕ) → 0 < n → n ≡ suc (n - 1)
one_more n h = omega (arith, h)

pub same_era : (r : RoutesValue) (w e f : ℕ) (since read : Option ℕ) → e ≡ f → IsEraOf r e since → IsEraOf r f read → IsNear r w since read
same_era r w e f since read same o p = inl (one_era r f since read (subst (λ k. IsEraOf r k since) same o) p)

pub later_era : (r : RoutesValue) (w e f : ℕ) (b : Bool) → e < f → ((since read : Option ℕ) → IsEraOf r e since → IsEraOf r (suc (f - 1)) read → IsTrue b ↔ IsNear r w since read)
    → (since read : Option ℕ) → IsEraOf r e since → IsEraOf r f read → IsTrue b ↔ IsNear r w since read
later_era r w e f b low h since read o p = h since read o (subst (λ k. IsEraOf r k read) (one_more f (omega (arith, low))) p)

pub earlier_era : (r : RoutesValue) (w e f : ℕ) (b : Bool) → f < e → ((since read : Option ℕ) → IsEraOf r f since → IsEraOf r (suc (e - 1)) read → IsTrue b ↔ IsNear r w since read)
    → (since read : Option ℕ) → IsEraOf r e since → IsEraOf r f read → IsTrue b ↔ IsNear r w since read
earlier_era r w e f b low h since read o p =
    let k = later_era r w f e b low h read since p o in
    (λ g. near_turned r w read since (k.0 g), λ g. k.1 (near_turned r w since read g))

-- ---- neighbours, one by one

pub near_number_of : (r : RoutesValue) (w e f : ℕ) (b : Bool) → HasEra r e → HasEra r f → ((since read : Option ℕ) → IsEraOf r e since → IsEraOf r f read → IsTrue b ↔ IsNear r w since read) → IsTrue b → IsNearEra r w e f
near_number_of r w e f b one two h is = near_number r w e f one.0 two.0 one.1 two.1 ((h one.0 two.0 one.1 two.1).0 is)

pub not_near : (r : RoutesValue) (w e f : ℕ) (b : Bool) → ((since read : Option ℕ) → IsEraOf r e since → IsEraOf r f read → IsTrue b ↔ IsNear r w since read) → b ≡ false → IsNearEra r w e f → ⊥
not_near r w e f b h none n = true≢false (sym ((h n.0 n.1 n.2 n.3).1 n.4) ∙ none)

turned : (r : RoutesValue) (w e f : ℕ) → IsNearEra r w e f → IsNearEra r w f e
turned r w e f n = (n.1, n.0, n.3, n.2, near_turned r w n.0 n.1 n.4)

pub own_era : (r : RoutesValue) (w e : ℕ) → HasEra r e → IsNearEra r w e e
own_era r w e h = (h.0, h.0, h.1, h.1, near_itself r w h.0)

pub era_below : (r : RoutesValue) (e k : ℕ) → k ≤ e → HasEra r e → HasEra r k
era_below r e k le has =
    let t = table_exists (breaks_of r) in
    let counts = counted r t.0 t.1 (length t.0 + 1) refl in
    let low = (counts e).1 has in
    (counts k).0 (omega (arith, le, low))

pub none_before : (r : RoutesValue) (w e first : ℕ) → first ≤ e → HasEra r e → (IsNearEra r w e (first - 1) → ⊥) → (other : ℕ) → IsNearEra r w e other → first ≤ other
none_before r w e first low has none other n =
    let t = table_exists (breaks_of r) in
    elim (cases_lt other first) [
      | inr over ↦ over
      | inl under ↦
          let last = era_below r e (first - 1) (omega (arith, low)) has in
          absurd (none (turned r w (first - 1) e (between r t.0 t.1 w other (first - 1) e (omega (arith, under)) (omega (arith, low)) last (turned r w e other n)).1))
    ]

pub none_behind : (r : RoutesValue) (w e end : ℕ) → e ≤ end → HasEra r end → (IsNearEra r w e end → ⊥) → (other : ℕ) → IsNearEra r w e other → other < end
none_behind r w e end low has none other n =
    let t = table_exists (breaks_of r) in
    elim (cases_lt other end) [
      | inl under ↦ under
      | inr over ↦ absurd (none (between r t.0 t.1 w e end other low over has n).0)
    ]

-- ---- from one era on, one by one

pub one_before : (r : RoutesValue) (w e first : ℕ) → 0 < first → IsNearEra r w e (first - 1) → ((k : ℕ) → first ≤ k → k ≤ e → IsNearEra r w e k) → (k : ℕ) → first - 1 ≤ k → k ≤ e → IsNearEra r w e k
one_before r w e first some near far k low high =
    elim (cases_lt k first) [
      | inl under ↦ let same : first - 1 ≡ k = omega (arith, some, low, under) in subst (IsNearEra r w e) same near
      | inr over ↦ far k over high
    ]

pub one_behind : (r : RoutesValue) (w e last : ℕ) → IsNearEra r w e (last + 1) → ((k : ℕ) → e ≤ k → k ≤ last → IsNearEra r w e k) → (k : ℕ) → e ≤ k → k ≤ last + 1 → IsNearEra r w e k
one_behind r w e last near far k low high =
    elim (cases_lt last k) [
      | inl over ↦ let same : last + 1 ≡ k = omega (arith, over, high) in subst (IsNearEra r w e) same near
      | inr under ↦ far k low under
    ]

pub only_own : (r : RoutesValue) (w e : ℕ) → HasEra r e → (k : ℕ) → e ≤ k → k ≤ e → IsNearEra r w e k
only_own r w e has k low high = let same : e ≡ k = omega (arith, low, high) in subst (IsNearEra r w e) same (own_era r w e has)

-- the number of an era is below their count
pub none_past : (r : RoutesValue) (count w e last : ℕ) → ((era : ℕ) → (era < count) ↔ HasEra r era) → count ≤ last + 1 → (other : ℕ) → IsNearEra r w e other → other < last + 1
none_past r count w e last counts over other n = let low = (counts other).1 (n.1, n.3) in omega (arith, over, low)

pub near_eras_are : (r : RoutesValue) (w e first end : ℕ) → first ≤ e → e < end → ((k : ℕ) → first ≤ k → k ≤ e → IsNearEra r w e k) → ((k : ℕ) → e ≤ k → k < end → IsNearEra r w e k)
    → ((k : ℕ) → IsNearEra r w e k → first ≤ k) → ((k : ℕ) → IsNearEra r w e k → k < end) → AreNearEras r w e first end
near_eras_are r w e first end low high before behind from to = record {
  first_is = low;
  end_is = high;
  near = λ k a b. elim (cases_lt k e) [ inl under ↦ before k a (omega (arith, under)) | inr over ↦ behind k over b ];
  all = λ k n. (from k n, to k n);
}
