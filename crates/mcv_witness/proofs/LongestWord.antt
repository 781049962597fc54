-- The class word of a rest is the one of the greatest length with which the rest begins.
use Rattle.std.proofs.Common.{◌≡◌, ◌↔◌, ◌==◌, ◌⊎◌, inl, inr, cond, ℕ, ◌<◌, ◌≤◌, ◌&&◌, Bool, true, false, nat_lt, List, [], ◌∷◌, ◌++◌, length, refl, sym, ap, ◌∙◌, subst, arith}
use Rattle.std.specs.List.{Contains}
use Rattle.std.specs.Prelude.{IsTrue}
use Rattle.std.proofs.lemmas.Bool.{and_from, and_parts, eq-eqb, eqb-true, false≢true, ltb-false, ltb-true}
use Rattle.mcv_base.specs.Key.{begins_with}
use Rattle.mcv_route.proofs.RisingLists.{behind_first, first_or_behind, none_there}
use Rattle.mcv_classes.proofs.Order.{begins-same, shorter-begins}
use Rattle.mcv_classes.specs.Class.{IsClassWord}
use Rattle.mcv_classes.specs.Words.{class_words, prefixes_below, prefixes_in}
use Rattle.mcv_route.specs.Tree.{Tree, Trees, pool, null, error, many, warm_up, migrate, prefix_selector, operation_selector, none, child}
use Rattle.mcv_witness.specs.LongestWord.{longer, longest_below, longest_in, longest_of}

-- ---- over a tree, and over its prefixes

longest-append : (rest : List ℕ) (vs ws : List (List ℕ)) (most : ℕ) → longest_of most rest (vs ++ ws) ≡ longest_of (longest_of most rest vs) rest ws
longest-append rest [] ws most = refl
longest-append rest (v ∷ vs) ws most = longest-append rest vs ws (longer most rest v)

module _ (rest : List ℕ) where
  mutual
    in-words : (t : Tree) (most : ℕ) → longest_in most rest t ≡ longest_of most rest (prefixes_in t)
    in-words (pool p ranges targets) most = below-words targets most
    in-words null most = refl
    in-words error most = refl
    in-words (many kind ts) most = below-words ts most
    in-words (warm_up cold warm exptime) most =
        ap (λ n. longest_in n rest warm) (in-words cold most) ∙ in-words warm (longest_of most rest (prefixes_in cold)) ∙ sym (longest-append rest (prefixes_in cold) (prefixes_in warm) most)
    in-words (migrate from to start interval) most =
        ap (λ n. longest_in n rest to) (in-words from most) ∙ in-words to (longest_of most rest (prefixes_in from)) ∙ sym (longest-append rest (prefixes_in from) (prefixes_in to) most)
    in-words (prefix_selector prefixes ts) most = below-words ts (longest_of most rest prefixes) ∙ sym (longest-append rest prefixes (prefixes_below ts) most)
    in-words (operation_selector ops ts) most = below-words ts most

    below-words : (ts : Trees) (most : ℕ) → longest_below most rest ts ≡ longest_of most rest (prefixes_below ts)
    below-words none most = refl
    below-words (child t ts) most =
        ap (λ n. longest_below n rest ts) (in-words t most) ∙ below-words ts (longest_of most rest (prefixes_in t)) ∙ sym (longest-append rest (prefixes_in t) (prefixes_below ts) most)

-- ---- the greatest length

no-less : (a b : ℕ) → a ≤ b → b ≤ a → a ≡ b
no-less a b h g = omega (arith, h, g)

at-least : (b : Bool) (most n : ℕ) → (b ≡ true → most < n) → most ≤ cond b n most
at-least true most n h = let low : most < n = h refl in omega (arith, low)
at-least false most n h = omega arith

longer-least : (rest w : List ℕ) (most : ℕ) → most ≤ longer most rest w
longer-least rest w most =
    at-least (nat_lt most (length w) && begins_with rest w) most (length w) (λ e. ltb-true most (length w) (and_parts (nat_lt most (length w)) (begins_with rest w) e).0)

longest-least : (rest : List ℕ) (ws : List (List ℕ)) (most : ℕ) → most ≤ longest_of most rest ws
longest-least rest [] most = omega arith
longest-least rest (w ∷ ws) most =
    let first : most ≤ longer most rest w = longer-least rest w most in
    let more : longer most rest w ≤ longest_of (longer most rest w) rest ws = longest-least rest ws (longer most rest w) in
    omega (arith, first, more)

kept-or-over : (most n : ℕ) → (nat_lt most n ≡ true) ⊎ (n ≤ most)
kept-or-over most n = by (nat_lt most n) refl
  where
    by : (b : Bool) → nat_lt most n ≡ b → (nat_lt most n ≡ true) ⊎ (n ≤ most)
    by true e = inl e
    by false e = inr (ltb-false most n e)

longer-most : (rest w : List ℕ) (most : ℕ) → begins_with rest w ≡ true → length w ≤ longer most rest w
longer-most rest w most begins = by (kept-or-over most (length w))
  where
    by : (nat_lt most (length w) ≡ true) ⊎ (length w ≤ most) → length w ≤ longer most rest w
    by (inl over) = subst (λ b. length w ≤ cond b (length w) most) (sym (and_from (nat_lt most (length w)) (begins_with rest w) over begins)) (omega arith)
    by (inr under) = let least : most ≤ longer most rest w = longer-least rest w most in omega (arith, under, least)

longest-most : (rest : List ℕ) (ws : List (List ℕ)) (most : ℕ) (w : List ℕ) → Contains ws w → begins_with rest w ≡ true → length w ≤ longest_of most rest ws
longest-most rest [] most w at begins = absurd (none_there w at)
longest-most rest (v ∷ ws) most w at begins = by (first_or_behind v ws w at) (longest-most rest ws (longer most rest v) w)
  where
    by : (v ≡ w) ⊎ Contains ws w → (Contains ws w → begins_with rest w ≡ true → length w ≤ longest_of (longer most rest v) rest ws) → length w ≤ longest_of (longer most rest v) rest ws
    by (inl same) more =
        let own : length w ≤ longer most rest v = subst (λ x. length w ≤ longer most rest x) (sym same) (longer-most rest w most begins) in
        let least : longer most rest v ≤ longest_of (longer most rest v) rest ws = longest-least rest ws (longer most rest v) in
        omega (arith, own, least)
    by (inr behind) more = more behind begins

-- a word of this length with which the rest begins
record HasOne (ws : List (List ℕ)) (rest : List ℕ) (n : ℕ) : Type 0 where
  word : List ℕ
  there : Contains ws word
  begins : begins_with rest word ≡ true
  long : n ≡ length word

has-behind : (v : List ℕ) (ws : List (List ℕ)) (rest : List ℕ) (n : ℕ) → HasOne ws rest n → HasOne (v ∷ ws) rest n
has-behind v ws rest n h = record { word = h.word; there = behind_first v ws h.word h.there; begins = h.begins; long = h.long }

longest-found : (rest : List ℕ) (ws : List (List ℕ)) (most : ℕ) → (longest_of most rest ws ≡ most) ⊎ HasOne ws rest (longest_of most rest ws)
longest-found rest [] most = inl refl
longest-found rest (w ∷ ws) most = by (nat_lt most (length w) && begins_with rest w) refl (longest-found rest ws)
  where
    by : (b : Bool) → (nat_lt most (length w) && begins_with rest w) ≡ b → ((n : ℕ) → (longest_of n rest ws ≡ n) ⊎ HasOne ws rest (longest_of n rest ws))
        → (longest_of (cond b (length w) most) rest ws ≡ most) ⊎ HasOne (w ∷ ws) rest (longest_of (cond b (length w) most) rest ws)
    by true e found = elim (found (length w)) [
      | inl same ↦ inr (record { word = w; there = (0, omega arith, refl); begins = (and_parts (nat_lt most (length w)) (begins_with rest w) e).1; long = same })
      | inr h ↦ inr (has-behind w ws rest (longest_of (length w) rest ws) h)
    ]
    by false e found = elim (found most) [
      | inl same ↦ inl same
      | inr h ↦ inr (has-behind w ws rest (longest_of most rest ws) h)
    ]

-- ---- the class word

empty-word : (word : List ℕ) → length word ≡ 0 → [] ≡ word
empty-word [] e = refl
empty-word (b ∷ word) e = absurd (omega (arith, e))

same-word : (rest v w : List ℕ) → begins_with rest v ≡ true → begins_with rest w ≡ true → length v ≡ length w → v ≡ w
same-word rest v w b c long = sym (begins-same w v (shorter-begins rest v w b c (omega (arith, long))) (omega (arith, long)))

listed-word : (rest word : List ℕ) (ws : List (List ℕ)) → begins_with rest word ≡ true → length word ≡ longest_of 0 rest ws → Contains ([] ∷ ws) word
listed-word rest word ws begins long =
    elim (longest-found rest ws 0) [
      | inl same ↦ (0, omega arith, empty-word word (long ∙ same))
      | inr h ↦ behind_first [] ws word (subst (Contains ws) (same-word rest h.word word h.begins begins (sym h.long ∙ sym long)) h.there)
    ]

none-longer : (rest word v : List ℕ) (ws : List (List ℕ)) → length word ≡ longest_of 0 rest ws → Contains ([] ∷ ws) v → begins_with rest v ≡ true → length v ≤ length word
none-longer rest word v ws long at begins =
    elim (first_or_behind [] ws v at) [
      | inl empty ↦ subst (λ x. length x ≤ length word) empty (omega arith)
      | inr behind ↦ let most : length v ≤ longest_of 0 rest ws = longest-most rest ws 0 v behind begins in omega (arith, most, long)
    ]

pub class-right : (rest word : List ℕ) (t : Tree) → begins_with rest word ≡ true → length word ≡ longest_in 0 rest t → IsClassWord (class_words t) rest word
class-right rest word t begins long =
    let most : length word ≡ longest_of 0 rest (prefixes_in t) = long ∙ in-words rest t 0 in
    record {
      listed = listed-word rest word (prefixes_in t) begins most;
      begins = begins;
      longest = λ v at b. none-longer rest word v (prefixes_in t) most at b;
    }

under-most : (rest word : List ℕ) (ws : List (List ℕ)) → Contains ([] ∷ ws) word → begins_with rest word ≡ true → length word ≤ longest_of 0 rest ws
under-most rest word ws at begins =
    elim (first_or_behind [] ws word at) [
      | inl empty ↦ subst (λ x. length x ≤ longest_of 0 rest ws) empty (omega arith)
      | inr behind ↦ longest-most rest ws 0 word behind begins
    ]

over-most : (rest word : List ℕ) (ws : List (List ℕ)) → IsClassWord ([] ∷ ws) rest word → longest_of 0 rest ws ≤ length word
over-most rest word ws class =
    elim (longest-found rest ws 0) [
      | inl same ↦ omega (arith, same)
      | inr h ↦ let most : length h.word ≤ length word = class.longest h.word (behind_first [] ws h.word h.there) h.begins in omega (arith, most, h.long)
    ]

pub class-left : (rest word : List ℕ) (t : Tree) → IsClassWord (class_words t) rest word → length word ≡ longest_in 0 rest t
class-left rest word t class =
    no-less (length word) (longest_of 0 rest (prefixes_in t)) (under-most rest word (prefixes_in t) class.listed class.begins) (over-most rest word (prefixes_in t) class)
    ∙ sym (in-words rest t 0)

-- ---- what is tested

pub not_begun : (bytes rest word : List ℕ) (t : Tree) (b : Bool) → bytes ≡ rest → b ≡ begins_with bytes word → b ≡ false → IsTrue false ↔ IsClassWord (class_words t) rest word
not_begun bytes rest word t b same tests bad =
    (λ e. absurd (false≢true e), λ class. absurd (false≢true (sym bad ∙ tests ∙ ap (λ x. begins_with x word) same ∙ class.begins)))

pub by_length : (bytes rest word : List ℕ) (t : Tree) (b : Bool) (n m : ℕ) → bytes ≡ rest → b ≡ begins_with bytes word → b ≡ true → n ≡ length word → m ≡ longest_in 0 rest t → IsTrue (n == m) ↔ IsClassWord (class_words t) rest word
by_length bytes rest word t b n m same tests good long most = (
  λ e. class-right rest word t (sym (ap (λ x. begins_with x word) same) ∙ sym tests ∙ good) (sym long ∙ eqb-true n m e ∙ most),
  λ class. eq-eqb n m (long ∙ class-left rest word t class ∙ sym most),
)
