-- How a table is made of sorted words.
use Rattle.std.proofs.Common.{◌≡◌, ℕ, suc, ◌+◌, ◌-◌, ◌<◌, Bool, true, false, List, [], ◌∷◌, ◌++◌, length, get_or, Vec, Global, refl, sym, ap, ◌∙◌, subst, arith}
use Rattle.std.specs.Prelude.{if◌then◌else◌}
use Rattle.std.specs.List.{All, AllPairs, Contains}
use Rattle.std.specs.List.Sorted.{IsPermutation, IsSorted}
use Rattle.std.specs.Cmp.Lexicographic.{slice_cmp}
use Rattle.std.specs.Ordering.{nat_cmp, is_gt, is_lt, ordering_reverse}
use Rattle.std.specs.Str.{bytes_eq}
use Rattle.std.specs.declared.cmp.Ordering.{Ordering}
use Rattle.std.specs.declared.cmp.Ordering.TheVariants.{Less, Equal, Greater}
use Rattle.std.proofs.lemmas.Cmp.{nat_list_cmp_total}
use Rattle.std.proofs.lemmas.List.{get_or_push, length_push}
use Rattle.std.proofs.lemmas.List.Elements.{All-push, All-weaker, Contains-append_left, Contains-get_or, Contains-push}
use Rattle.std.proofs.lemmas.List.Sorted.{All-permutation, Contains-permutation, IsPermutation-cons, IsPermutation-map, IsPermutation-sym}
use Rattle.std.proofs.lemmas.Slice.Eq.{bytes_eq-Decides}
use Rattle.mcv_classes.specs.Class.{IsBefore, IsUpTo}
use Rattle.mcv_classes.specs.Table.{IsInOrderFrom, IsWordTable, bytes_of, last_of, word_at}

-- ---- sorted words are in order

turned : (o : Ordering) → is_lt o ≡ false → is_gt (ordering_reverse o) ≡ false
turned Less e = e
turned Equal e = refl
turned Greater e = refl

upto-from : (v w : List ℕ) → is_lt (slice_cmp nat_cmp w v) ≡ false → IsUpTo v w
upto-from v w e = ap is_gt (nat_list_cmp_total.antisymm v w) ∙ turned (slice_cmp nat_cmp w v) e

abbrev compared : Vec ℕ Global → Vec ℕ Global → Ordering
compared v w = slice_cmp nat_cmp v.items w.items

sorted-tail : (x : Vec ℕ Global) (xs : List (Vec ℕ Global)) → IsSorted compared (x ∷ xs) → IsSorted compared xs
sorted-tail x xs s k d low h =
    let e : suc k + 1 ≡ suc (k + 1) = omega arith in
    let at : is_lt (compared (get_or (x ∷ xs) (suc k + 1) d) (get_or (x ∷ xs) (suc k) d)) ≡ false = s (suc k) d (omega arith) (omega (arith, h)) in
    subst (λ j. is_lt (compared (get_or (x ∷ xs) j d) (get_or (x ∷ xs) (suc k) d)) ≡ false) e at

in-order-after : (x : Vec ℕ Global) (xs : List (Vec ℕ Global)) → IsSorted compared (x ∷ xs) → IsInOrderFrom x.items (bytes_of xs)
in-order-after x [] s = tt
in-order-after x (y ∷ ys) s = (upto-from x.items y.items (s 0 x (omega arith) (omega arith)), in-order-after y ys (sorted-tail x (y ∷ ys) s))

empty-first : (v : List ℕ) → IsUpTo [] v
empty-first [] = refl
empty-first (b ∷ v) = refl

pub in-order : (xs : List (Vec ℕ Global)) → IsSorted compared xs → IsInOrderFrom [] (bytes_of xs)
in-order [] s = tt
in-order (x ∷ xs) s = (empty-first x.items, in-order-after x xs s)

-- ---- one word after another

-- the table has the empty word and those that are done, and the others are behind them
pub record IsMade (done table rest : List (List ℕ)) : Type 0 where
  pub order : IsInOrderFrom (last_of table) rest
  pub rising : AllPairs IsBefore table
  pub all : All (Contains table) ([] ∷ done)
  pub only : All (Contains ([] ∷ done)) table

module _ (done table : List (List ℕ)) (word : List ℕ) (more : List (List ℕ)) (made : IsMade done table (word ∷ more)) where
  some : 0 < length table
  some = let h : Contains table [] = made.all 0 [] (omega arith) in omega (arith, h.1)

  abbrev next : Bool → List (List ℕ)
  next b = if b then table else table ++ word ∷ []

  same-last : bytes_eq (last_of table) word ≡ true → last_of table ≡ word
  same-last e = (bytes_eq-Decides (last_of table) word).0 e

  next-last : (b : Bool) → bytes_eq (last_of table) word ≡ b → last_of (next b) ≡ word
  next-last true e = same-last e
  next-last false e =
      let size : length (table ++ word ∷ []) - 1 ≡ length table = omega (arith, length_push table word) in
      ap (word_at (table ++ word ∷ [])) size ∙ get_or_push table word [] (length table) refl

  next-keeps : (b : Bool) (v : List ℕ) → Contains table v → Contains (next b) v
  next-keeps true v h = h
  next-keeps false v h = Contains-append_left table (word ∷ []) v h

  next-has : (b : Bool) → bytes_eq (last_of table) word ≡ b → Contains (next b) word
  next-has true e = subst (Contains table) (same-last e) (Contains-get_or table (length table - 1) [] (omega (arith, some)))
  next-has false e = Contains-push table word

  done-kept : All (Contains ([] ∷ (done ++ word ∷ []))) table
  done-kept = All-weaker (Contains ([] ∷ done)) (Contains ([] ∷ (done ++ word ∷ []))) (λ v h. Contains-append_left ([] ∷ done) (word ∷ []) v h) table made.only

  next-only : (b : Bool) → All (Contains ([] ∷ (done ++ word ∷ []))) (next b)
  next-only true = done-kept
  next-only false = All-push (Contains ([] ∷ (done ++ word ∷ []))) table word done-kept (Contains-push ([] ∷ done) word)

  next-made : (b : Bool) → bytes_eq (last_of table) word ≡ b → AllPairs IsBefore (next b) → IsMade (done ++ word ∷ []) (next b) more
  next-made b e rising = record {
    order = subst (λ v. IsInOrderFrom v more) (sym (next-last b e)) made.order.1;
    rising = rising;
    all = All-push (Contains (next b)) ([] ∷ done) word (All-weaker (Contains table) (Contains (next b)) (next-keeps b) ([] ∷ done) made.all) (next-has b e);
    only = next-only b;
  }

  pub word-made : (after : List (List ℕ)) → after ≡ (if bytes_eq (last_of table) word then table else table ++ word ∷ []) → AllPairs IsBefore after → IsMade (done ++ word ∷ []) after more
  word-made after is rising =
      subst (λ t. IsMade (done ++ word ∷ []) t more) (sym is) (next-made (bytes_eq (last_of table) word) refl (subst (AllPairs IsBefore) is rising))

pub table-made : (done table rest words : List (List ℕ)) → done ≡ words → IsMade done table rest → IsWordTable ([] ∷ words) table
table-made done table rest words is made = subst (λ ws. IsWordTable ([] ∷ ws) table) is (record { rising = made.rising; all = made.all; only = made.only })

-- ---- words in another order

pub table-of : (words sorted : List (Vec ℕ Global)) (prefixes table : List (List ℕ)) → bytes_of words ≡ prefixes → IsPermutation words sorted → IsWordTable ([] ∷ bytes_of sorted) table → IsWordTable ([] ∷ prefixes) table
table-of words sorted prefixes table is moved t =
    let over : IsPermutation ([] ∷ bytes_of words) ([] ∷ bytes_of sorted) = IsPermutation-cons [] (bytes_of words) (bytes_of sorted) (IsPermutation-map (λ v. v.items) words sorted moved) in
    let back : IsPermutation ([] ∷ bytes_of sorted) ([] ∷ bytes_of words) = IsPermutation-sym ([] ∷ bytes_of words) ([] ∷ bytes_of sorted) over in
    subst (λ ws. IsWordTable ([] ∷ ws) table) is (record {
      rising = t.rising;
      all = All-permutation (Contains table) ([] ∷ bytes_of sorted) ([] ∷ bytes_of words) back t.all;
      only = All-weaker (Contains ([] ∷ bytes_of sorted)) (Contains ([] ∷ bytes_of words)) (λ v h. Contains-permutation ([] ∷ bytes_of sorted) ([] ∷ bytes_of words) v back h) table t.only;
    })
