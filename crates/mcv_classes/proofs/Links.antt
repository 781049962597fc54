-- Words in a table, and the links between them.
use Rattle.std.proofs.Common.{◌≡◌, ℕ, suc, ◌-◌, ◌<◌, ◌≤◌, ◌⊎◌, inl, inr, Bool, true, false, List, [], ◌∷◌, ◌++◌, length, get_or, Some, refl, sym, ap, ◌∙◌, subst, arith}
use Rattle.std.specs.List.{AllPairs}
use Rattle.std.specs.Str.{bytes_eq}
use Rattle.std.proofs.lemmas.Bool.{cases_lt, cases_order, false≢true, true≢false}
use Rattle.std.proofs.lemmas.List.{get_or-map, get_or_append_left, get_or_push, get_or_default, length-map, length_push, map_push}
use Rattle.std.proofs.lemmas.List.Quantifiers.{all_pairs_push}
use Rattle.std.proofs.lemmas.Option.{get_or_from_slice_get, slice_get_within, slice_get-get_or}
use Rattle.std.proofs.lemmas.Slice.Eq.{bytes_eq-Decides}
use Rattle.mcv_base.specs.Key.{begins_with}
use Rattle.mcv_classes.specs.Class.{IsBefore, IsUpTo}
use Rattle.mcv_classes.specs.Table.{IsLink, IsLinked, last_of, texts_of, word_at}
use Rattle.mcv_classes.specs.declared.table.LinkedWord.{LinkedWord}
use Rattle.mcv_classes.proofs.Order.{before-upto, begins-upto, between, never-back, upto-before, upto-itself, before-through}

-- ---- rising words

pub upto-later : (words : List (List ℕ)) (k i : ℕ) → AllPairs IsBefore words → k ≤ i → i < length words → IsUpTo (word_at words k) (word_at words i)
upto-later words k i up le h = by (cases_lt k i)
  where
    by : (k < i) ⊎ (i ≤ k) → IsUpTo (word_at words k) (word_at words i)
    by (inl below) = before-upto (word_at words k) (word_at words i) (up k i [] below h)
    by (inr above) =
        let same : i ≡ k = omega (arith, le, above) in
        subst (λ j. IsUpTo (word_at words k) (word_at words j)) (sym same) (upto-itself (word_at words k))

pub later-upto : (words : List (List ℕ)) (k i : ℕ) → AllPairs IsBefore words → k < length words → IsUpTo (word_at words k) (word_at words i) → k ≤ i
later-upto words k i up h e = by (cases_lt i k)
  where
    by : (i < k) ⊎ (k ≤ i) → k ≤ i
    by (inl below) = absurd (never-back (word_at words i) (word_at words k) (up i k [] below h) e)
    by (inr above) = above

-- ---- linked words

pub text-at : (words : List LinkedWord) (i : ℕ) (w : LinkedWord) → i < length words → w ≡ get_or words i w → word_at (texts_of words) i ≡ w.text.items
text-at words i w h is = get_or-map (λ v. v.text.items) words i w [] h ∙ ap (λ v. v.text.items) (sym is)

pub length-texts : (words : List LinkedWord) → length (texts_of words) ≡ length words
length-texts words = length-map words (λ v. v.text.items)

pub some-word : (words : List LinkedWord) → IsLinked words → 0 < length words
some-word words l = let h : 0 < length (texts_of words) = slice_get_within (texts_of words) 0 [] l.first in omega (arith, h, length-texts words)

pub first-word : (words : List LinkedWord) → IsLinked words → word_at (texts_of words) 0 ≡ []
first-word words l = get_or_from_slice_get (texts_of words) 0 [] [] l.first

-- each word with which the bytes begin is one with which word i begins
abbrev pub AreBelow : List (List ℕ) → List ℕ → ℕ → Type 0
AreBelow words bytes i = (k : ℕ) → k < length words → begins_with bytes (word_at words k) ≡ true → begins_with (word_at words i) (word_at words k) ≡ true

-- where the bytes don't begin with word i, its link leads on
pub record IsDown (words : List (List ℕ)) (bytes : List ℕ) (i j : ℕ) : Type 0 where
  pub down : j < i
  pub below : AreBelow words bytes j

module _ (words : List LinkedWord) (l : IsLinked words) (bytes : List ℕ) (i : ℕ) (h : i < length words) (fails : begins_with bytes (word_at (texts_of words) i) ≡ false) (below : AreBelow (texts_of words) bytes i) where
  kept : (w : LinkedWord) → w ≡ get_or words i w → 0 < i → (k : ℕ) → k < length (texts_of words) → begins_with bytes (word_at (texts_of words) k) ≡ true → (k ≡ i) ⊎ ((k < i) ⊎ (i < k))
      → begins_with (word_at (texts_of words) w.shorter) (word_at (texts_of words) k) ≡ true
  kept w is some k inside e (inl same) = absurd (true≢false (sym e ∙ ap (λ j. begins_with bytes (word_at (texts_of words) j)) same ∙ fails))
  kept w is some k inside e (inr (inl early)) =
      let link : IsLink (texts_of words) i (get_or words i w).shorter = l.links i w some h in
      ap (λ v. begins_with (word_at (texts_of words) v.shorter) (word_at (texts_of words) k)) is ∙ link.kept k early (below k inside e)
  kept w is some k inside e (inr (inr late)) =
      let early : k ≤ i = later-upto (texts_of words) k i l.rising inside (begins-upto (word_at (texts_of words) i) (word_at (texts_of words) k) (below k inside e)) in
      absurd (omega (arith, early, late))

  pub goes-down : (w : LinkedWord) → w ≡ get_or words i w → (0 < i) ⊎ (i ≤ 0) → IsDown (texts_of words) bytes i w.shorter
  goes-down w is (inl some) =
      let link : IsLink (texts_of words) i (get_or words i w).shorter = l.links i w some h in
      let down : w.shorter < i = subst (λ (v : LinkedWord). v.shorter < i) (sym is) link.down in
      record { down = down; below = λ k inside e. kept w is some k inside e (cases_order k i) }
  goes-down w is (inr none) =
      let same : i ≡ 0 = omega (arith, none) in
      let empty : word_at (texts_of words) i ≡ [] = ap (word_at (texts_of words)) same ∙ first-word words l in
      absurd (true≢false (sym (ap (begins_with bytes) empty) ∙ fails))

-- a step of the walk: v and w are the word at place i as it was read twice
pub walks-down : (table : List (List ℕ)) (words : List LinkedWord) (bytes text : List ℕ) (i : ℕ) (v w : LinkedWord) → texts_of words ≡ table → IsLinked words → i < length table → v ≡ get_or words i v → text ≡ v.text.items
    → begins_with bytes text ≡ false → w ≡ get_or words i w → AreBelow table bytes i → IsDown table bytes i w.shorter
walks-down table words bytes text i v w same l h v-is text-is fails w-is below =
    let inside : i < length words = omega (arith, h, length-texts words, ap length same) in
    let here : word_at (texts_of words) i ≡ text = text-at words i v inside v-is ∙ sym text-is in
    let own : AreBelow (texts_of words) bytes i = subst (λ ts. AreBelow ts bytes i) (sym same) below in
    subst (λ ts. IsDown ts bytes i w.shorter) same (goes-down words l bytes i inside (ap (begins_with bytes) here ∙ fails) own w w-is (cases_lt 0 i))

-- ---- one more word

-- the words with which one begins that isn't before the last are among those of the last
pub last-below : (words : List LinkedWord) (word : List ℕ) (last : ℕ) → IsLinked words → suc last ≡ length words → IsUpTo (word_at (texts_of words) last) word → AreBelow (texts_of words) word last
last-below words word last l is e k h b =
    let inside : last < length (texts_of words) = omega (arith, is, length-texts words) in
    let early : k ≤ last = omega (arith, h, is, length-texts words) in
    between word (word_at (texts_of words) k) (word_at (texts_of words) last) b (upto-later (texts_of words) k last l.rising early inside) e

-- links stay where the words up to them do
link-stays : (table after : List (List ℕ)) (n i j : ℕ) → ((k : ℕ) → k < n → word_at after k ≡ word_at table k) → i < n → IsLink table i j → IsLink after i j
link-stays table after n i j same h link =
    let under : j < n = omega (arith, link.down, h) in
    record {
      down = link.down;
      kept = λ k early b.
          let near : k < n = omega (arith, early, h) in
          let own : begins_with (word_at table i) (word_at table k) ≡ true = (λ x. begins_with (sym (same i h) x) (sym (same k near) x)) ∙ b in
          (λ x. begins_with (same j under x) (same k near x)) ∙ link.kept k early own;
    }

module _ (words : List LinkedWord) (w : LinkedWord) where
  text-stays : (k : ℕ) → k < length words → word_at (texts_of (words ++ w ∷ [])) k ≡ word_at (texts_of words) k
  text-stays k h =
      ap (λ ts. word_at ts k) (map_push (λ v. v.text.items) words w) ∙ get_or_append_left (texts_of words) (w.text.items ∷ []) [] k (omega (arith, h, length-texts words))

  text-new : word_at (texts_of (words ++ w ∷ [])) (length words) ≡ w.text.items
  text-new = ap (λ ts. word_at ts (length words)) (map_push (λ v. v.text.items) words w) ∙ get_or_push (texts_of words) w.text.items [] (length words) (length-texts words)

  link-new : w.shorter < length words → AreBelow (texts_of words) w.text.items w.shorter → IsLink (texts_of (words ++ w ∷ [])) (length words) w.shorter
  link-new h below = record {
    down = h;
    kept = λ k early b.
        let near : k < length (texts_of words) = omega (arith, early, length-texts words) in
        let own : begins_with w.text.items (word_at (texts_of words) k) ≡ true = (λ x. begins_with (sym text-new x) (sym (text-stays k early) x)) ∙ b in
        (λ x. begins_with (text-stays w.shorter h x) (text-stays k early x)) ∙ below k near own;
  }

  before-new : (last : ℕ) → IsLinked words → suc last ≡ length words → IsUpTo (word_at (texts_of words) last) w.text.items → (word_at (texts_of words) last ≡ w.text.items → ⊥)
      → (k : ℕ) → k < length words → (k < last) ⊎ (last ≤ k) → IsBefore (word_at (texts_of words) k) w.text.items
  before-new last l is e apart k h (inl early) =
      before-through (word_at (texts_of words) k) (word_at (texts_of words) last) w.text.items (l.rising k last [] early (omega (arith, is, length-texts words)))
      (upto-before (word_at (texts_of words) last) w.text.items e apart)
  before-new last l is e apart k h (inr late) =
      let same : k ≡ last = omega (arith, late, h, is) in
      subst (λ j. IsBefore (word_at (texts_of words) j) w.text.items) (sym same) (upto-before (word_at (texts_of words) last) w.text.items e apart)

  -- one more word, linked with one of the others
  pub grown : (last : ℕ) → IsLinked words → suc last ≡ length words → IsUpTo (word_at (texts_of words) last) w.text.items → (word_at (texts_of words) last ≡ w.text.items → ⊥) → w.shorter < length words → AreBelow (texts_of words) w.text.items w.shorter
      → IsLinked (words ++ w ∷ [])
  grown last l is e apart h below =
      let some : 0 < length words = some-word words l in
      let texts-are : texts_of (words ++ w ∷ []) ≡ texts_of words ++ w.text.items ∷ [] = map_push (λ v. v.text.items) words w in
      record {
        first = slice_get-get_or (texts_of (words ++ w ∷ [])) 0 [] (omega (arith, length-texts (words ++ w ∷ []), length_push words w)) ∙ ap Some (text-stays 0 some ∙ first-word words l);
        rising = subst (AllPairs IsBefore) (sym texts-are)
            (all_pairs_push IsBefore (texts_of words) w.text.items l.rising
            (λ k d inside.
            let near : k < length words = omega (arith, inside, length-texts words) in
            subst (λ v. IsBefore v w.text.items) (get_or_default (texts_of words) k [] d inside) (before-new last l is e apart k near (cases_lt k last))));
        links = λ i d some-i inside. links-at i d some-i inside (cases_lt i (length words));
      }
    where
      links-at : (i : ℕ) (d : LinkedWord) → 0 < i → i < length (words ++ w ∷ []) → (i < length words) ⊎ (length words ≤ i) → IsLink (texts_of (words ++ w ∷ [])) i (get_or (words ++ w ∷ []) i d).shorter
      links-at i d some-i inside (inl old) =
          subst (λ (v : LinkedWord). IsLink (texts_of (words ++ w ∷ [])) i v.shorter) (sym (get_or_append_left words (w ∷ []) d i old))
          (link-stays (texts_of words) (texts_of (words ++ w ∷ [])) (length words) i (get_or words i d).shorter text-stays old (l.links i d some-i old))
      links-at i d some-i inside (inr new) =
          let same : i ≡ length words = omega (arith, new, inside, length_push words w) in
          subst (λ j. IsLink (texts_of (words ++ w ∷ [])) j (get_or (words ++ w ∷ []) j d).shorter) (sym same)
          (subst (λ (v : LinkedWord). IsLink (texts_of (words ++ w ∷ [])) (length words) v.shorter) (sym (get_or_push words w d (length words) refl)) (link-new h below))

-- ---- as the code has them

-- the words with which one begins that isn't before the last are among those of the last
pub below-last : (table : List (List ℕ)) (words : List LinkedWord) (word bytes : List ℕ) (n : ℕ) → texts_of words ≡ table → IsLinked words → n ≡ length words → IsUpTo (last_of table) word → bytes ≡ word → AreBelow table bytes (n - 1)
below-last table words word bytes n same l size e is =
    let some : 0 < length words = some-word words l in
    let at : length (texts_of words) - 1 ≡ n - 1 = omega (arith, size, length-texts words) in
    let last : IsUpTo (last_of (texts_of words)) word = subst (λ ts. IsUpTo (last_of ts) word) (sym same) e in
    let own : IsUpTo (word_at (texts_of words) (n - 1)) word = subst (λ k. IsUpTo (word_at (texts_of words) k) word) at last in
    let below : AreBelow (texts_of words) word (n - 1) = last-below words word (n - 1) l (omega (arith, some, size)) own in
    subst (λ b. AreBelow table b (n - 1)) (sym is) (subst (λ ts. AreBelow ts word (n - 1)) same below)

-- v is the last word, a and b are what was compared, and bytes those of the new word
pub grown-at : (table : List (List ℕ)) (words : List LinkedWord) (v w : LinkedWord) (a b bytes : List ℕ) (t : Bool) (n : ℕ) → texts_of words ≡ table → IsLinked words → n ≡ length words → IsUpTo (last_of table) w.text.items
    → v ≡ get_or words (n - 1) v → a ≡ v.text.items → b ≡ w.text.items → t ≡ bytes_eq a b → t ≡ false → bytes ≡ w.text.items → w.shorter < length table → AreBelow table bytes w.shorter → IsLinked (words ++ w ∷ [])
grown-at table words v w a b bytes t n same l size e v-is a-is b-is t-is other bytes-is inside below =
    let some : 0 < length words = some-word words l in
    let at : length (texts_of words) - 1 ≡ n - 1 = omega (arith, size, length-texts words) in
    let last : IsUpTo (last_of (texts_of words)) w.text.items = subst (λ ts. IsUpTo (last_of ts) w.text.items) (sym same) e in
    let own : IsUpTo (word_at (texts_of words) (n - 1)) w.text.items = subst (λ k. IsUpTo (word_at (texts_of words) k) w.text.items) at last in
    let here : word_at (texts_of words) (n - 1) ≡ a = text-at words (n - 1) v (omega (arith, some, size)) v-is ∙ sym a-is in
    let apart : word_at (texts_of words) (n - 1) ≡ w.text.items → ⊥ = λ q. false≢true (sym other ∙ t-is ∙ (bytes_eq-Decides a b).1 (sym here ∙ q ∙ sym b-is)) in
    let under : w.shorter < length words = omega (arith, inside, length-texts words, ap length same) in
    let kept : AreBelow (texts_of words) w.text.items w.shorter = subst (λ ts. AreBelow ts w.text.items w.shorter) (sym same) (subst (λ x. AreBelow table x w.shorter) bytes-is below) in
    grown words w (n - 1) l (omega (arith, some, size)) own apart under kept

-- the text of an item, as one of the table
pub item-inside : (table : List (List ℕ)) (words items : List LinkedWord) (i : ℕ) → texts_of words ≡ table → items ≡ words → i < length items → i < length table
item-inside table words items i same is h = omega (arith, h, ap length is, length-texts words, ap length same)

pub item-text : (table : List (List ℕ)) (words items : List LinkedWord) (i : ℕ) (v : LinkedWord) (text : List ℕ) → texts_of words ≡ table → items ≡ words → i < length items → v ≡ get_or items i v → text ≡ v.text.items → text ≡ get_or table i text
item-text table words items i v text same is h v-is text-is =
    let inside : i < length words = omega (arith, h, ap length is) in
    let own : v ≡ get_or words i v = v-is ∙ ap (λ xs. get_or xs i v) is in
    let at : get_or (texts_of words) i text ≡ text = get_or-map (λ x. x.text.items) words i v text inside ∙ ap (λ x. x.text.items) (sym own) ∙ sym text-is in
    sym at ∙ ap (λ ts. get_or ts i text) same
