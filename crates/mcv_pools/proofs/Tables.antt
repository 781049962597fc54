-- What is where in a table, and what a table of texts has of the set that holds it.
use Rattle.std.proofs.Common.{◌≡◌, ℕ, ◌+◌, ◌<◌, ◌≤◌, Bool, true, false, cond, not, ◌||◌, List, [], ◌∷◌, ◌++◌, map, length, get_or, slice_get, position, Some, None, refl, sym, ap, ◌∙◌, true≢false, nat_lt, arith, length-append}
use Rattle.std.specs.Bool.{Decides}
use Rattle.std.specs.List.{position_or_len, list_any, IsDistinct, AllByRecursion}
use Rattle.std.proofs.lemmas.Bool.Decides.{nat_tests}
use Rattle.std.proofs.lemmas.List.{length-map, map-append}
use Rattle.std.proofs.lemmas.List.Folds.{position_or_len_push}
use Rattle.std.proofs.lemmas.List.Sums.{prefix_len-le-length}
use Rattle.std.proofs.lemmas.List.Quantifiers.{position-Some}
use Rattle.std.proofs.lemmas.Map.Keys.{apart_from_distinct}
use Rattle.std.proofs.lemmas.Option.{slice_get_within, get_or_from_slice_get, slice_get-get_or}
use Rattle.indexmap.specs.IndexSet.{insert_key}
use Rattle.mcv_pools.specs.Table.{IsOneToOne, is_in, number_in, with_entry}

position_or_len-map : {X Y : Type 0} (p : Y → Bool) (f : X → Y) (xs : List X) → position_or_len p (map f xs) ≡ position_or_len (λ x. p (f x)) xs
position_or_len-map p f [] = refl
position_or_len-map p f (x ∷ xs) = rw (position_or_len-map p f xs)

pub position-map : {X Y : Type 0} (p : Y → Bool) (f : X → Y) (xs : List X) → position p (map f xs) ≡ position (λ x. p (f x)) xs
position-map p f xs = simp (position_or_len-map, length-map)

pub list_any-map : {X Y : Type 0} (p : Y → Bool) (f : X → Y) (xs : List X) → list_any p (map f xs) ≡ list_any (λ x. p (f x)) xs
list_any-map p f [] = refl
list_any-map p f (x ∷ xs) = rw (list_any-map p f xs)

-- an element whose image is not among the images goes last
pub inserted : {X Y : Type 0} (same : Y → Y → Bool) (f : X → Y) (xs : List X) (x : X) → is_in same (map f xs) (f x) ≡ false → map f (insert_key (λ y z. same (f y) (f z)) xs x) ≡ map f xs ++ f x ∷ []
inserted same f xs x e =
    let absent : list_any (λ y. same (f x) (f y)) xs ≡ false = sym (list_any-map (same (f x)) f xs) ∙ e in
    rw absent (map-append f xs (x ∷ []))

pub distinct-map : {X Y : Type 0} (same : Y → Y → Bool) (f : X → Y) (xs : List X) → IsDistinct (λ x y. same (f x) (f y)) xs → IsDistinct same (map f xs)
unfolding IsDistinct
distinct-map same f [] h = h
distinct-map {X} same f (x ∷ xs) h = (apart xs h.0, distinct-map same f xs h.1)
  where
    apart : (ys : List X) → AllByRecursion (λ y. same (f x) (f y) ≡ false) ys → AllByRecursion (λ y. same (f x) y ≡ false) (map f ys)
    apart [] a = a
    apart (y ∷ ys) a = (a.0, apart ys a.1)

module _ {A : Type 0} (same : A → A → Bool) (decides : (x y : A) → Decides (same x y) (x ≡ y)) (table : List A) where
  apart : IsDistinct same table → (i j : ℕ) (x : A) → slice_get table i ≡ Some x → slice_get table j ≡ Some x → i < j → ⊥
  apart distinct i j x at_i at_j below =
      let e : same (get_or table i x) (get_or table j x) ≡ false = apart_from_distinct same table i j x distinct below (slice_get_within table j x at_j) in
      let s : same x x ≡ true = (decides x x).1 refl in
      let p : get_or table i x ≡ x = get_or_from_slice_get table i x x at_i in
      let q : get_or table j x ≡ x = get_or_from_slice_get table j x x at_j in
      true≢false (sym s ∙ (λ k. same (sym p k) (sym q k)) ∙ e)

  pub one_to_one : IsDistinct same table → IsOneToOne table
  one_to_one distinct i j x at_i at_j =
      let p : i < j → ⊥ = apart distinct i j x at_i at_j in
      let q : j < i → ⊥ = apart distinct j i x at_j at_i in
      omega arith

-- some element passes where there is a first that does
any_found : {A : Type 0} (p : A → Bool) (xs : List A) → list_any p xs ≡ nat_lt (position_or_len p xs) (length xs)
any_found p [] = refl
any_found {A} p (x ∷ xs) = by (p x) (any_found p xs)
  where
    by : (b : Bool) → list_any p xs ≡ nat_lt (position_or_len p xs) (length xs) → (b || list_any p xs) ≡ nat_lt (cond (not b) (1 + position_or_len p xs) 0) (length (x ∷ xs))
    by true e = grind (arith, nat_tests)
    by false e = e ∙ grind (arith, nat_tests)

module _ {A : Type 0} (p : A → Bool) (xs : List A) where
  found : (i : ℕ) → position p xs ≡ Some i → list_any p xs ≡ true
  found i e = any_found p xs ∙ by (nat_lt (position_or_len p xs) (length xs)) e
    where
      by : (b : Bool) → cond b (Some (position_or_len p xs)) None ≡ Some i → b ≡ true
      by true e = refl
      by false e = cc

  missing : position p xs ≡ None → nat_lt (position_or_len p xs) (length xs) ≡ false
  missing e = by (nat_lt (position_or_len p xs) (length xs)) e
    where
      by : (b : Bool) → cond b (Some (position_or_len p xs)) None ≡ None → b ≡ false
      by true e = cc
      by false e = refl

  missing_len : position p xs ≡ None → position_or_len p xs ≡ length xs
  missing_len e =
      let past : nat_lt (position_or_len p xs) (length xs) ≡ false = missing e in
      let most : position_or_len p xs ≤ length xs = prefix_len-le-length (λ x. not (p x)) xs in
      grind (arith, nat_tests)

  first_at : (i : ℕ) → position_or_len p xs ≡ i → i < length xs → position p xs ≡ Some i
  first_at i e h =
      let inside : nat_lt i (length xs) ≡ true = grind (arith, nat_tests) in
      rw e (rw inside refl)

pub at_end : {A : Type 0} (xs : List A) (x : A) → slice_get (xs ++ x ∷ []) (length xs) ≡ Some x
at_end [] x = refl
at_end (y ∷ xs) x = at_end xs x

module _ {A : Type 0} (same : A → A → Bool) (decides : (x y : A) → Decides (same x y) (x ≡ y)) (table : List A) (x : A) where
  pub there : (i : ℕ) → number_in same table x ≡ Some i → is_in same table x ≡ true
  there i e = found (same x) table i e

  pub kept : (i : ℕ) → number_in same table x ≡ Some i → table ≡ with_entry same table x
  kept i e = rw (there i e) refl

  pub is_at_number : (i : ℕ) → number_in same table x ≡ Some i → slice_get table i ≡ Some x
  is_at_number i e =
      let s = position-Some (same x) table i x e in
      let at : x ≡ get_or table i x = (decides x (get_or table i x)).0 s.1 in
      slice_get-get_or table i x s.0 ∙ ap Some (sym at)

  pub new : number_in same table x ≡ None → is_in same table x ≡ false
  new e = any_found (same x) table ∙ missing (same x) table e

  pub grown : number_in same table x ≡ None → with_entry same table x ≡ table ++ x ∷ []
  grown e = rw (new e) refl

  pub numbered_last : number_in same table x ≡ None → number_in same (table ++ x ∷ []) x ≡ Some (length table)
  numbered_last e =
      let at : position_or_len (same x) (table ++ x ∷ []) ≡ length table =
      rw (position_or_len_push (same x) table x, missing_len (same x) table e, (decides x x).1 refl) (grind (arith, nat_tests)) in
      first_at (same x) (table ++ x ∷ []) (length table) at (omega (arith, length-append table (x ∷ [])))
