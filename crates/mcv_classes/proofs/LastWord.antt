-- The last word of a table that isn't behind some bytes, and the longest with which they begin.
use Rattle.std.proofs.Common.{◌≡◌, ℕ, ◌-◌, ◌<◌, ◌≤◌, ◌⊎◌, inl, inr, Bool, true, false, List, [], length, get_or, Some, refl, sym, ap, ◌∙◌, subst, arith}
use Rattle.std.specs.List.{AllWithin, Contains}
use Rattle.std.specs.List.Sorted.{IsPartitionPoint, IsPartitionedBy}
use Rattle.std.specs.Cmp.Lexicographic.{slice_cmp, slice_partial_cmp, lists_agrees}
use Rattle.std.specs.Ordering.{nat_cmp, is_gt, is_le, is_some_and}
use Rattle.std.specs.declared.cmp.Ordering.{Ordering}
use Rattle.std.specs.declared.cmp.Ordering.TheVariants.{Less, Equal, Greater}
use Rattle.std.proofs.lemmas.Bool.{cases_lt, false≢true, true≢false}
use Rattle.std.proofs.lemmas.List.{get_or-map, get_or_default}
use Rattle.std.proofs.lemmas.Option.{slice_get_cases}
use Rattle.mcv_base.specs.Key.{begins_with}
use Rattle.mcv_classes.specs.Class.{IsClassWord, IsUpTo}
use Rattle.mcv_classes.specs.Table.{IsLinked, texts_of, word_at}
use Rattle.mcv_classes.specs.declared.table.LinkedWord.{LinkedWord}
use Rattle.mcv_classes.proofs.Links.{AreBelow, first-word, length-texts, some-word, upto-later}
use Rattle.mcv_classes.proofs.Order.{begins-itself, begins-same, begins-upto, between, length-begins, upto-through}

-- what the code asks of a word
abbrev pub is_passed : List ℕ → List ℕ → Bool
is_passed bytes v = is_some_and is_le (slice_partial_cmp (λ x y. Some (nat_cmp x y)) v bytes)

passed-is : (bytes v : List ℕ) → is_passed bytes v ≡ is_le (slice_cmp nat_cmp v bytes)
passed-is bytes v =
    let same : slice_partial_cmp (λ x y. Some (nat_cmp x y)) v bytes ≡ Some (slice_cmp nat_cmp v bytes) = lists_agrees (λ x y. refl) v bytes in
    ap (is_some_and is_le) same

not-behind : (o : Ordering) → is_le o ≡ true → is_gt o ≡ false
not-behind Less e = refl
not-behind Equal e = refl
not-behind Greater e = absurd (false≢true e)

at-most : (o : Ordering) → is_gt o ≡ false → is_le o ≡ true
at-most Less e = refl
at-most Equal e = refl
at-most Greater e = absurd (true≢false e)

passed-upto : (bytes v : List ℕ) → is_passed bytes v ≡ true → IsUpTo v bytes
passed-upto bytes v e = not-behind (slice_cmp nat_cmp v bytes) (sym (passed-is bytes v) ∙ e)

upto-passed : (bytes v : List ℕ) → IsUpTo v bytes → is_passed bytes v ≡ true
upto-passed bytes v e = passed-is bytes v ∙ at-most (slice_cmp nat_cmp v bytes) e

module _ (words : List LinkedWord) (l : IsLinked words) (bytes : List ℕ) where
  abbrev pub passes : LinkedWord → Bool
  passes w = is_passed bytes w.text.items

  text-of : (i : ℕ) (d : LinkedWord) → i < length words → (get_or words i d).text.items ≡ word_at (texts_of words) i
  text-of i d h = sym (get_or-map (λ v. v.text.items) words i d [] h)

  pub passes-first : IsPartitionedBy passes words
  passes-first i j d le h e =
      let inside : i < length words = omega (arith, le, h) in
      let far : IsUpTo (word_at (texts_of words) j) bytes = passed-upto bytes (word_at (texts_of words) j) (ap (is_passed bytes) (sym (text-of j d h)) ∙ e) in
      let near : IsUpTo (word_at (texts_of words) i) bytes =
      upto-through (word_at (texts_of words) i) (word_at (texts_of words) j) bytes (upto-later (texts_of words) i j l.rising le (omega (arith, h, length-texts words))) far in
      ap (is_passed bytes) (text-of i d inside) ∙ upto-passed bytes (word_at (texts_of words) i) near

  -- a word at most the bytes is among the first n
  among : (d : LinkedWord) (n k : ℕ) → AllWithin (λ w. passes w ≡ false) words n (length words) → k < length words → IsUpTo (word_at (texts_of words) k) bytes → (k < n) ⊎ (n ≤ k) → k < n
  among d n k rest h e (inl early) = early
  among d n k rest h e (inr late) =
      absurd (true≢false (sym (upto-passed bytes (word_at (texts_of words) k) e) ∙ ap (is_passed bytes) (sym (text-of k d h)) ∙ rest k d late h))

  pub some-passed : (d : LinkedWord) (n : ℕ) → AllWithin (λ w. passes w ≡ false) words n (length words) → 0 < n
  some-passed d n rest =
      let some : 0 < length words = some-word words l in
      let first : IsUpTo (word_at (texts_of words) 0) bytes = subst (λ v. IsUpTo v bytes) (sym (first-word words l)) (begins-upto bytes [] refl) in
      among d n 0 rest some first (cases_lt 0 n)

  pub found-below : (d : LinkedWord) (n : ℕ) → n ≤ length words → AllWithin (λ w. passes w ≡ true) words 0 n → AllWithin (λ w. passes w ≡ false) words n (length words) → AreBelow (texts_of words) bytes (n - 1)
  found-below d n bound front rest k h b =
      let inside : k < length words = omega (arith, h, length-texts words) in
      let some : 0 < n = some-passed d n rest in
      let early : k < n = among d n k rest inside (begins-upto bytes (word_at (texts_of words) k) b) (cases_lt k n) in
      let last : n - 1 < length words = omega (arith, some, bound) in
      let under : IsUpTo (word_at (texts_of words) (n - 1)) bytes =
      passed-upto bytes (word_at (texts_of words) (n - 1)) (ap (is_passed bytes) (sym (text-of (n - 1) d last)) ∙ front (n - 1) d (omega arith) (omega (arith, some))) in
      between bytes (word_at (texts_of words) k) (word_at (texts_of words) (n - 1)) b (upto-later (texts_of words) k (n - 1) l.rising (omega (arith, early)) (omega (arith, last, length-texts words))) under

-- some word is passed, and those with which the bytes begin are among those of the last that is
pub passed-some : (words : List LinkedWord) (l : IsLinked words) (bytes : List ℕ) (n : ℕ) → IsPartitionPoint (λ w. passes words l bytes w ≡ true) (λ w. passes words l bytes w ≡ false) words n → 0 < n
passed-some words l bytes n point =
    let some : 0 < length words = some-word words l in
    elim (slice_get_cases words 0).1 as (λ _. 0 < n) [ inl f ↦ some-passed words l bytes f.0 n point.1 | inr f ↦ absurd (omega (arith, some, f.0)) ]

pub passed-below : (table : List (List ℕ)) (words : List LinkedWord) (l : IsLinked words) (bytes : List ℕ) (n : ℕ) → texts_of words ≡ table → n ≤ length words
    → IsPartitionPoint (λ w. passes words l bytes w ≡ true) (λ w. passes words l bytes w ≡ false) words n → AreBelow table bytes (n - 1)
passed-below table words l bytes n same bound point =
    let some : 0 < length words = some-word words l in
    elim (slice_get_cases words 0).1 as (λ _. AreBelow table bytes (n - 1)) [
      | inl f ↦ subst (λ ts. AreBelow ts bytes (n - 1)) same (found-below words l bytes f.0 n bound point.0 point.1)
      | inr f ↦ absurd (omega (arith, some, f.0))
    ]

-- the longest word is the class word
pub class-word : (table : List (List ℕ)) (bytes text : List ℕ) (place : ℕ) → place < length table → text ≡ word_at table place → begins_with bytes (word_at table place) ≡ true → AreBelow table bytes place → IsClassWord table bytes text
class-word table bytes text place h is b below = record {
  listed = (place, h, get_or_default table place text [] h ∙ sym is);
  begins = ap (begins_with bytes) is ∙ b;
  longest = λ v at e.
      let own : word_at table at.0 ≡ v = get_or_default table at.0 [] v at.1 ∙ at.2 in
      let under : begins_with (word_at table place) (word_at table at.0) ≡ true = below at.0 at.1 (ap (begins_with bytes) own ∙ e) in
      length-begins text v ((λ i. begins_with (is i) (sym own i)) ∙ under);
}

-- bytes are a word exactly when the longest with which they begin is all of them
pub word-itself : (table : List (List ℕ)) (bytes word : List ℕ) → IsClassWord table bytes word → Contains table bytes → word ≡ bytes
word-itself table bytes word c h =
    let long : length bytes ≤ length word = c.longest bytes h (begins-itself bytes) in
    sym (begins-same bytes word c.begins long)
