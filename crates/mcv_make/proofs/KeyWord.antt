-- The member of a class behind an alias is a key word.
use Rattle.std.proofs.Common.{◌≡◌, ◌≤◌, ◌<◌, ◌+◌, ◌&&◌, ℕ, zero, suc, true, List, [], ◌∷◌, ◌++◌, length, Some, ap, ◌∙◌, arith, length-append}
use Rattle.std.specs.Prelude.{nat_le, nat_lt}
use Rattle.std.specs.List.{All, Contains, list_all}
use Rattle.std.proofs.lemmas.Bool.{and_from, and_parts}
use Rattle.std.proofs.lemmas.List.Elements.{All-append, All-cons, All-contains, All-nil}
use Rattle.std.proofs.lemmas.List.Folds.{list_all-append}
use Rattle.mcv_base.specs.Key.{is_key_byte, is_key_word}
use Rattle.mcv_base.proofs.Prefixes.{key_word_of}
use Rattle.mcv_config.specs.Aliases.{IsAlias, alias_limit}
use Rattle.mcv_names.specs.Handles.{prefix_limit}
use Rattle.mcv_classes.specs.Class.{IsMember}
use Rattle.mcv_classes.specs.Words.{class_words, prefixes_below, prefixes_in}
use Rattle.mcv_route.specs.Limits.{AreWithin, IsWithin}
use Rattle.mcv_route.specs.Tree.{Tree, Trees, pool, null, error, many, warm_up, migrate, prefix_selector, operation_selector, none, child}

abbrev AreShort : List (List ℕ) → Type 0
AreShort words = All (λ w. length w ≤ prefix_limit) words

both-short : (xs ys : List (List ℕ)) → AreShort xs → AreShort ys → AreShort (xs ++ ys)
both-short xs ys h g = All-append (λ w. length w ≤ prefix_limit) xs ys h g

none-short : AreShort []
none-short = All-nil (λ w. length w ≤ prefix_limit)

mutual
  prefixes-short : (n : ℕ) (t : Tree) → IsWithin n t → AreShort (prefixes_in t)
  prefixes-short zero t h = absurd h
  prefixes-short (suc n) (pool p ranges targets) h = below-short n targets h.1
  prefixes-short (suc n) null h = none-short
  prefixes-short (suc n) error h = none-short
  prefixes-short (suc n) (many kind ts) h = below-short n ts h
  prefixes-short (suc n) (warm_up cold warm exptime) h = both-short (prefixes_in cold) (prefixes_in warm) (prefixes-short n cold h.1) (prefixes-short n warm h.2)
  prefixes-short (suc n) (migrate from to start interval) h = both-short (prefixes_in from) (prefixes_in to) (prefixes-short n from h.2) (prefixes-short n to h.3)
  prefixes-short (suc n) (prefix_selector prefixes ts) h = both-short prefixes (prefixes_below ts) h.0 (below-short n ts h.1)
  prefixes-short (suc n) (operation_selector ops ts) h = below-short n ts h

  below-short : (n : ℕ) (ts : Trees) → AreWithin n ts → AreShort (prefixes_below ts)
  below-short n none h = none-short
  below-short n (child t ts) h = both-short (prefixes_in t) (prefixes_below ts) (prefixes-short n t h.0) (below-short n ts h.1)

words-short : (n : ℕ) (t : Tree) → IsWithin n t → AreShort (class_words t)
words-short n t h = All-cons (λ w. length w ≤ prefix_limit) [] (prefixes_in t) (omega arith) (prefixes-short n t h)

member-short : (t : Tree) (word member : List ℕ) → length word ≤ prefix_limit → IsMember (class_words t) word (Some member) → length member ≤ prefix_limit
member-short t [] member low m = let one : length member ≡ 1 = ap length m.1 in omega (arith, one)
member-short t (b ∷ word) member low m = let same : length member ≡ length (b ∷ word) = ap length m.0 in omega (arith, same, low)

key-parts : (word : List ℕ) → is_key_word word ≡ true → (nat_lt 0 (length word) ≡ true) × (list_all is_key_byte word ≡ true)
key-parts word e =
    let a = and_parts (nat_lt 0 (length word)) (nat_le (length word) 250 && list_all is_key_byte word) e in
    let b = and_parts (nat_le (length word) 250) (list_all is_key_byte word) a.1 in
    (a.0, b.1)

pub key-word : (n : ℕ) (t : Tree) (word member prefix : List ℕ) → IsWithin n t → Contains (class_words t) word → IsMember (class_words t) word (Some member) → is_key_word member ≡ true
    → IsAlias prefix → 0 < length prefix → length prefix ≤ alias_limit → is_key_word (prefix ++ member) ≡ true
key-word n t word member prefix within listed has key alias some low =
    let short = member-short t word member (All-contains (λ w. length w ≤ prefix_limit) (class_words t) word (words-short n t within) listed) has in
    let count : length (prefix ++ member) ≡ length prefix + length member = length-append prefix member in
    key_word_of (prefix ++ member) (omega (arith, count, some)) (omega (arith, count, short, low))
    (list_all-append is_key_byte prefix member ∙ and_from (list_all is_key_byte prefix) (list_all is_key_byte member) alias.bytes (key-parts member key).1)
