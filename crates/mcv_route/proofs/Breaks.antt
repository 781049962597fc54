-- The table of breaks: the last of those that have passed, and how many have.
use Rattle.std.proofs.Common.{◌≡◌, ℕ, zero, suc, ◌+◌, ◌-◌, ◌<◌, ◌≤◌, ◌⊎◌, inl, inr, List, [], ◌∷◌, ◌++◌, Bool, true, false, cond, ◌||◌, Option, Some, None, refl, ap, sym, subst, ◌∙◌, arith, length, map, take, drop, get_or, fold}
use Rattle.std.specs.Prelude.{nat_le, nat_eq, filter, if◌then◌else◌}
use Rattle.std.specs.List.{All, AllPairs, AllWithin, Contains, dedup, list_any, remove}
use Rattle.std.specs.List.Retain.{IsFiltered, DiffersFromLast}
use Rattle.std.specs.List.Sorted.{IsNonDecreasingBy, IsPermutation, IsSorted, IsStrictlyIncreasing}
use Rattle.std.specs.Ordering.{nat_cmp}
use Rattle.std.proofs.lemmas.Bool.{both_ways, cases_lt, cond_both, eqb-true, eq-eqb, le-leb, leb-true, leb-false, or_parts}
use Rattle.std.proofs.lemmas.List.{get_or_default, get_or-drop, get_or-map, get_or-take, length-drop, length-map, length-take, length-take-le}
use Rattle.std.proofs.lemmas.List.Elements.{All-cons, All-contains, All-filter, All-head, All-nil, All-push, All-tail, All-take, Contains-append_left, Contains-get_or, Contains-push, Contains-push_cases, filter_passes}
use Rattle.std.proofs.lemmas.List.Filters.{dedup_is}
use Rattle.std.proofs.lemmas.List.Kept.{AllPairs-from_increasing, Contains-dedup_nat, Contains-from_dedup}
use Rattle.std.proofs.lemmas.List.Sorted.{Contains-permutation, IsPermutation-remove, IsPermutation-sym, length_permutation}
use Rattle.std.proofs.lemmas.Map.Keys.{IsStrictlyIncreasing-dedup}
use Rattle.mcv_base.specs.declared.request.Moment.{Moment}
use Rattle.mcv_pools.specs.Table.{is_in, numbered, with_entry}
use Rattle.mcv_route.specs.Eras.{era_at, IsBreakTable, IsSince, passed, since_at}
use Rattle.mcv_route.proofs.OpeningBreak.{since_is_last, there}

-- ---- lists with nothing twice

abbrev IsApart : List ℕ → Type 0
IsApart [] = Unit {0}
IsApart (x ∷ xs) = (Contains xs x → ⊥) × IsApart xs

apart-push : (xs : List ℕ) (x : ℕ) → IsApart xs → (Contains xs x → ⊥) → IsApart (xs ++ x ∷ [])
apart-push [] x a new = ((λ h. absurd (omega (arith, h.1))), tt)
apart-push (y ∷ ys) x a new =
    let other : Contains (ys ++ x ∷ []) y → ⊥ =
    λ h. elim (Contains-push_cases ys x y h) as (λ _. ⊥) [
      | inl c ↦ a.0 c
      | inr e ↦ new (0, omega arith, sym e)
    ] in
    (other, apart-push ys x a.1 (λ c. new (there y x ys c)))

apart-from_pairs : (xs : List ℕ) → AllPairs (λ x y. x < y) xs → IsApart xs
apart-from_pairs [] pairs = tt
apart-from_pairs (x ∷ xs) pairs =
    let other : Contains xs x → ⊥ = λ h. let far : x < get_or xs h.0 x = pairs 0 (suc h.0) x (omega arith) (omega (arith, h.1)) in omega (arith, far, h.2) in
    (other, apart-from_pairs xs (λ i j d h g. pairs (suc i) (suc j) d (omega arith) (omega arith)))

other-than : (x z : ℕ) (rest : List ℕ) (k : ℕ) → k < length (x ∷ rest) → get_or (x ∷ rest) k z ≡ z → (z ≡ x → ⊥) → Contains rest z
other-than x z rest zero h is apart = absurd (apart (sym is))
other-than x z rest (suc k) h is apart = (k, omega arith, is)

-- what has nothing twice is no longer than a list that has it all
fewer : (xs ys : List ℕ) → IsApart xs → All (Contains ys) xs → length xs ≤ length ys
fewer [] ys a h = omega arith
fewer (x ∷ xs) ys a h =
    let at : Contains ys x = All-head (Contains ys) x xs h in
    let rest : List ℕ = remove ys at.0 in
    let moved : IsPermutation ys (x ∷ rest) = IsPermutation-remove ys at.0 x at.1 (sym at.2) in
    let left : All (Contains rest) xs =
    λ k d inside.
    let c : Contains (x ∷ rest) (get_or xs k d) = Contains-permutation ys (x ∷ rest) (get_or xs k d) moved (All-tail (Contains ys) x xs h k d inside) in
    other-than x (get_or xs k d) rest c.0 c.1 c.2 (λ e. a.0 (k, inside, get_or_default xs k x d inside ∙ e)) in
    let size : length (x ∷ rest) ≡ length ys = length_permutation ys (x ∷ rest) moved in
    let below : length xs ≤ length rest = fewer xs rest a.1 left in
    omega (arith, size, below)

-- ---- numbers by first appearance

found-in : (y : ℕ) (t : List ℕ) → list_any (nat_eq y) t ≡ true → Contains t y
found-in y [] e = cc
found-in y (z ∷ t) e = by (nat_eq y z) refl e (found-in y t)
  where
    by : (b : Bool) → nat_eq y z ≡ b → (b || list_any (nat_eq y) t) ≡ true → (list_any (nat_eq y) t ≡ true → Contains t y) → Contains (z ∷ t) y
    by true q e rest = (0, omega arith, sym (eqb-true y z q))
    by false q e rest = there z y t (rest e)

not-at : (y : ℕ) (t : List ℕ) (k : ℕ) → list_any (nat_eq y) t ≡ false → k < length t → get_or t k y ≡ y → ⊥
not-at y [] k e h is = omega arith
not-at y (z ∷ t) zero e h is = both_ways (nat_eq y z) (or_parts (nat_eq y z) (list_any (nat_eq y) t) e).0 (eq-eqb y z (sym is))
not-at y (z ∷ t) (suc k) e h is = not-at y t k (or_parts (nat_eq y z) (list_any (nat_eq y) t) e).1 (omega arith) is

abbrev with_each : List ℕ → List ℕ → List ℕ
with_each t xs = fold (with_entry nat_eq) t xs

kept-one : (t : List ℕ) (y x : ℕ) → Contains t x → Contains (with_entry nat_eq t y) x
kept-one t y x h =
    elim (is_in nat_eq t y) as (λ b. Contains (if b then t else t ++ y ∷ []) x) [
      | true ↦ h
      | false ↦ Contains-append_left t (y ∷ []) x h
    ]

put-one : (t : List ℕ) (y : ℕ) → Contains (with_entry nat_eq t y) y
put-one t y = by (is_in nat_eq t y) refl
  where
    by : (b : Bool) → is_in nat_eq t y ≡ b → Contains (if b then t else t ++ y ∷ []) y
    by true e = found-in y t e
    by false e = Contains-push t y

apart-one : (t : List ℕ) (y : ℕ) → IsApart t → IsApart (with_entry nat_eq t y)
apart-one t y a = by (is_in nat_eq t y) refl
  where
    by : (b : Bool) → is_in nat_eq t y ≡ b → IsApart (if b then t else t ++ y ∷ [])
    by true e = a
    by false e = apart-push t y a (λ h. not-at y t h.0 e h.1 h.2)

apart-each : (t xs : List ℕ) → IsApart t → IsApart (with_each t xs)
apart-each t [] a = a
apart-each t (y ∷ xs) a = apart-each (with_entry nat_eq t y) xs (apart-one t y a)

kept-each : (t xs : List ℕ) (x : ℕ) → Contains t x → Contains (with_each t xs) x
kept-each t [] x h = h
kept-each t (y ∷ xs) x h = kept-each (with_entry nat_eq t y) xs x (kept-one t y x h)

put-each : (t xs : List ℕ) → All (Contains (with_each t xs)) xs
put-each t [] = All-nil (Contains t)
put-each t (y ∷ xs) =
    let one = with_entry nat_eq t y in
    All-cons (Contains (with_each one xs)) y xs (kept-each one xs y (put-one t y)) (put-each one xs)

from-each : (t xs zs : List ℕ) → All (Contains zs) t → All (Contains zs) xs → All (Contains zs) (with_each t xs)
from-each t [] zs h g = h
from-each t (y ∷ xs) zs h g =
    let own : All (Contains zs) (with_entry nat_eq t y) =
    elim (is_in nat_eq t y) as (λ b. All (Contains zs) (if b then t else t ++ y ∷ [])) [
      | true ↦ h
      | false ↦ All-push (Contains zs) t y h (All-head (Contains zs) y xs g)
    ] in
    from-each (with_entry nat_eq t y) xs zs own (All-tail (Contains zs) y xs g)

kept-at : (p : ℕ → Bool) (xs : List ℕ) (x k : ℕ) → p x ≡ true → k < length xs → get_or xs k x ≡ x → Contains (filter p xs) x
kept-at p [] x k e h is = absurd (omega arith)
kept-at p (y ∷ xs) x zero e h is =
    let q : p y ≡ true = ap p is ∙ e in
    let P : Bool → Type 0 = λ b. Contains (cond b (y ∷ filter p xs) (filter p xs)) x in
    subst P (sym q) (0, omega arith, is)
kept-at p (y ∷ xs) x (suc k) e h is =
    let more : Contains (filter p xs) x = kept-at p xs x k e (omega arith) is in
    cond_both (p y) (y ∷ filter p xs) (filter p xs) (λ zs. Contains zs x) (λ _. there y x (filter p xs) more) (λ _. more)

-- ---- the last break is the only one

pub only-since : (bs : List ℕ) (m : ℕ) (s t : Option ℕ) → IsSince bs m s → IsSince bs m t → s ≡ t
only-since bs m None None f g = refl
only-since bs m None (Some t) f g = let far : m < t = All-contains (λ b. m < b) bs t f g.0 in absurd (omega (arith, far, g.1))
only-since bs m (Some s) None f g = let far : m < s = All-contains (λ b. m < b) bs s g f.0 in absurd (omega (arith, far, f.1))
only-since bs m (Some s) (Some t) f g =
    let low : s ≤ t = All-contains (λ b. b ≤ m → b ≤ t) bs s g.2 f.0 f.1 in
    let high : t ≤ s = All-contains (λ b. b ≤ m → b ≤ s) bs t f.2 g.0 g.1 in
    let same : s ≡ t = omega (arith, low, high) in
    ap Some same

-- ---- a table of which the first n have passed

module _ (bs ns : List ℕ) (m n : ℕ) (t : IsBreakTable bs ns) (bound : n ≤ length ns) (first : All (λ b. b ≤ m) (take n ns)) (rest : All (λ b. m < b) (drop n ns)) where
  pairs : AllPairs (λ x y. x < y) ns
  pairs = AllPairs-from_increasing ns t.rising

  among-at : (b k : ℕ) → k < length ns → get_or ns k b ≡ b → b ≤ m → (k < n) ⊎ (n ≤ k) → Contains (take n ns) b
  among-at b k h is low (inl below) = (k, omega (arith, length-take n ns), get_or-take n ns k b below ∙ is)
  among-at b k h is low (inr past) =
      let e : n + (k - n) ≡ k = omega arith in
      let far : m < get_or (drop n ns) (k - n) b = rest (k - n) b (omega (arith, length-drop n ns)) in
      let own : get_or (drop n ns) (k - n) b ≡ b = get_or-drop n ns (k - n) b ∙ ap (λ i. get_or ns i b) e ∙ is in
      absurd (omega (arith, far, own, low))

  -- a break that has passed is among the first
  among : (b : ℕ) → Contains ns b → b ≤ m → Contains (take n ns) b
  among b at low = among-at b at.0 at.1 at.2 low (cases_lt at.0 n)

  to-come : n ≡ 0 → (b : ℕ) → Contains ns b → (m < b) ⊎ (b ≤ m) → m < b
  to-come none b at (inl far) = far
  to-come none b at (inr low) = let c = among b at low in absurd (omega (arith, c.1, length-take n ns, none))

  pub since-none : n ≡ 0 → None ≡ since_at bs m
  since-none none = only-since bs m None (since_at bs m) (λ k d h. to-come none (get_or bs k d) (t.all k d h) (cases_lt m (get_or bs k d))) (since_is_last bs m)

  highest-at : (b k : ℕ) → k < n → get_or ns k b ≡ b → (k < n - 1) ⊎ (n - 1 ≤ k) → b ≤ get_or ns (n - 1) 0
  highest-at b k h is (inl below) =
      let up : get_or ns k 0 < get_or ns (n - 1) 0 = pairs k (n - 1) 0 below (omega arith) in
      let same : get_or ns k b ≡ get_or ns k 0 = get_or_default ns k b 0 (omega arith) in
      omega (arith, up, same, is)
  highest-at b k h is (inr above) =
      let at : k ≡ n - 1 = omega arith in
      let same : get_or ns k b ≡ get_or ns k 0 = get_or_default ns k b 0 (omega arith) in
      omega (arith, same, is, ap (λ i. get_or ns i 0) at)

  highest : (b : ℕ) → Contains ns b → b ≤ m → b ≤ get_or ns (n - 1) 0
  highest b at low =
      let c : Contains (take n ns) b = among b at low in
      let h : c.0 < n = omega (arith, c.1, length-take n ns) in
      highest-at b c.0 h (sym (get_or-take n ns c.0 b h) ∙ c.2) (cases_lt c.0 (n - 1))

  pub since-some : (s : ℕ) → 0 < n → s ≡ get_or ns (n - 1) 0 → Some s ≡ since_at bs m
  since-some s some is =
      let last : ℕ = get_or ns (n - 1) 0 in
      let has : Contains bs last = t.only (n - 1) 0 (omega arith) in
      let own : get_or (take n ns) (n - 1) 0 ≤ m = first (n - 1) 0 (omega (arith, length-take n ns)) in
      let low : last ≤ m = omega (arith, own, get_or-take n ns (n - 1) 0 (omega arith)) in
      ap Some is ∙ only-since bs m (Some last) (since_at bs m) (has, low, (λ k d h under. highest (get_or bs k d) (t.all k d h) under)) (since_is_last bs m)

  pairs-take : AllPairs (λ x y. x < y) (take n ns)
  pairs-take i j d h g =
      let inside : j < length ns = omega (arith, length-take n ns) in
      let below : j < n = omega (arith, length-take n ns) in
      let up : get_or ns i d < get_or ns j d = pairs i j d h inside in
      omega (arith, up, get_or-take n ns i d (omega arith), get_or-take n ns j d below)

  pub era-is : n ≡ era_at bs m
  era-is =
      let old = passed bs m in
      let eras = numbered nat_eq old in
      let passes : ℕ → Bool = λ b. nat_le b m in
      let size : length (take n ns) ≡ n = length-take-le n ns bound in
      let under : All (λ b. passes b ≡ true) old = filter_passes passes bs in
      let listed : All (Contains ns) old = All-filter passes (Contains ns) bs t.all in
      let in_table : All (Contains (take n ns)) eras = from-each [] old (take n ns) (All-nil (Contains (take n ns))) (λ k d h. among (get_or old k d) (listed k d h) (leb-true (get_or old k d) m (under k d h))) in
      let known : All (Contains bs) (take n ns) = All-take (Contains bs) n ns t.only in
      let in_eras : All (Contains eras) (take n ns) =
      λ k d h.
      let b : ℕ = get_or (take n ns) k d in
      let at : Contains bs b = known k d h in
      let test : passes b ≡ true = le-leb b m (first k d h) in
      All-contains (Contains eras) old b (put-each [] old) (kept-at passes bs b at.0 test at.1 at.2) in
      let most : length eras ≤ length (take n ns) = fewer eras (take n ns) (apart-each [] old tt) in_table in
      let least : length (take n ns) ≤ length eras = fewer (take n ns) eras (apart-from_pairs (take n ns) pairs-take) in_eras in
      omega (arith, size, most, least)

-- ---- how the table is made, and searched

pub made-table : (xs ys zs : List ℕ) → IsPermutation xs ys → IsSorted nat_cmp ys → IsFiltered (DiffersFromLast nat_eq) [] ys zs → IsBreakTable xs zs
made-table xs ys zs moved sorted kept =
    let is : zs ≡ dedup nat_eq ys = dedup_is nat_eq ys zs kept in
    let table : IsBreakTable xs (dedup nat_eq ys) =
    record {
      rising = IsStrictlyIncreasing-dedup ys sorted;
      all = λ k d h. Contains-dedup_nat ys (get_or xs k d) (Contains-permutation xs ys (get_or xs k d) moved (Contains-get_or xs k d h));
      only = λ k d h.
          let b : ℕ = get_or (dedup nat_eq ys) k d in
          Contains-permutation ys xs b (IsPermutation-sym xs ys moved) (Contains-from_dedup nat_eq ys b (Contains-get_or (dedup nat_eq ys) k d h));
    } in
    subst (IsBreakTable xs) (sym is) table

abbrev number : Moment → ℕ
number m = m.0

module _ (table : List Moment) where
  level : (i j : ℕ) (d : Moment) → IsStrictlyIncreasing (map number table) → i ≤ j → j < length table → (i < j) ⊎ (j ≤ i) → number (get_or table i d) ≤ number (get_or table j d)
  level i j d up h g (inl below) =
      let far : get_or (map number table) i (number d) < get_or (map number table) j (number d) = AllPairs-from_increasing (map number table) up i j (number d) below (omega (arith, length-map table number)) in
      omega (arith, far, get_or-map number table i d (number d) (omega arith), get_or-map number table j d (number d) g)
  level i j d up h g (inr above) =
      let same : i ≡ j = omega arith in
      omega (arith, ap (λ k. number (get_or table k d)) same)

  pub never-down : IsStrictlyIncreasing (map number table) → IsNonDecreasingBy number table
  never-down up i j d h g = level i j d up h g (cases_lt i j)

  pub first-under : (n m : ℕ) → n ≤ length table → AllWithin (λ y. nat_le (number y) m ≡ true) table 0 n → All (λ b. b ≤ m) (take n (map number table))
  first-under n m bound within k d h =
      let size = length-take n (map number table) in
      let below : k < n = omega (arith, size) in
      let at : Moment = record { 0 = d } in
      let low : number (get_or table k at) ≤ m = leb-true (number (get_or table k at)) m (within k at (omega arith) below) in
      omega (arith, low, get_or-take n (map number table) k d below, get_or-map number table k at d (omega arith))

  pub rest-over : (n m : ℕ) → AllWithin (λ y. nat_le (number y) m ≡ false) table n (length table) → All (λ b. m < b) (drop n (map number table))
  rest-over n m within k d h =
      let inside : n + k < length table = omega (arith, length-drop n (map number table), length-map table number) in
      let at : Moment = record { 0 = d } in
      let far : m < number (get_or table (n + k) at) = leb-false (number (get_or table (n + k) at)) m (within (n + k) at (omega arith) inside) in
      omega (arith, far, get_or-drop n (map number table) k d, get_or-map number table (n + k) at d inside)

-- ---- what a table of moments answers

module _ (bs : List ℕ) (table : List Moment) (m n : ℕ) (t : IsBreakTable bs (map number table)) (bound : n ≤ length table) (first : All (λ b. b ≤ m) (take n (map number table))) (rest : All (λ b. m < b) (drop n (map number table))) where
  within : n ≤ length (map number table)
  within = omega (arith, length-map table number)

  pub no-since : n ≡ 0 → None ≡ since_at bs m
  no-since none = since-none bs (map number table) m n t within first rest none

  pub last-since : (d : Moment) → 0 < n → Some (number (get_or table (n - 1) d)) ≡ since_at bs m
  last-since d some =
      let is : number (get_or table (n - 1) d) ≡ get_or (map number table) (n - 1) 0 = sym (get_or-map number table (n - 1) d 0 (omega arith)) in
      since-some bs (map number table) m n t within first rest (number (get_or table (n - 1) d)) some is

  pub era-of : n ≡ era_at bs m
  era-of = era-is bs (map number table) m n t within first rest
