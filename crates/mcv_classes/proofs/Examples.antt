-- Rows of the definitions, computed.
use Rattle.std.proofs.Common.{◌≡◌, ℕ, zero, suc, ◌<◌, ◌≤◌, Bool, true, false, not, ◌||◌, List, [], ◌∷◌, length, get_or, nat_le, Some, None, refl, sym, ap, ◌∙◌, arith, codes}
use Rattle.std.specs.List.{Contains, list_all}
use Rattle.std.specs.Str.{bytes_eq}
use Rattle.std.proofs.lemmas.Bool.{and_parts, false≢true, leb-true}
use Rattle.mcv_base.specs.Key.{begins_with}
use Rattle.mcv_route.specs.Tree.{Tree, pool, null, prefix_selector, none, child}
use Rattle.mcv_classes.specs.Class.{IsClassWord, IsMember}
use Rattle.mcv_classes.specs.Words.{class_words}

-- a selector with the policy `a`, and behind that one with the policy `ab`
abbrev nested : Tree
nested = prefix_selector (codes "a" ∷ []) (child (prefix_selector (codes "ab" ∷ []) (child null none)) none)

abbrev words : List (List ℕ)
words = [] ∷ codes "a" ∷ codes "ab" ∷ []

row-words : class_words nested ≡ words
row-words = refl

-- below a shadow too
row-shadow : class_words (pool (record { symbol = 0; servers = 0 ∷ [] }) (record { first = 0; last = 0 } ∷ []) (child nested none)) ≡ words
row-shadow = refl

-- ---- which word is the class word

passes : (p : List ℕ → Bool) (ws : List (List ℕ)) (v : List ℕ) → list_all p ws ≡ true → Contains ws v → p v ≡ true
passes p [] v e h = absurd (omega (arith, h.1))
passes p (w ∷ ws) v e h = by (passes p ws v (and_parts (p w) (list_all p ws) e).1) h.0 h.1 h.2
  where
    by : (Contains ws v → p v ≡ true) → (k : ℕ) → k < length (w ∷ ws) → get_or (w ∷ ws) k v ≡ v → p v ≡ true
    by more zero inside is = ap p (sym is) ∙ (and_parts (p w) (list_all p ws) e).0
    by more (suc k) inside is = more (k, omega (arith, inside), is)

-- no word is longer, or the rest doesn't begin with it
abbrev is_no_longer : List ℕ → List ℕ → List ℕ → Bool
is_no_longer rest word v = not (begins_with rest v) || nat_le (length v) (length word)

no-longer : (rest word v : List ℕ) → is_no_longer rest word v ≡ true → begins_with rest v ≡ true → length v ≤ length word
no-longer rest word v e b = by (begins_with rest v) refl e
  where
    by : (t : Bool) → begins_with rest v ≡ t → (not t || nat_le (length v) (length word)) ≡ true → length v ≤ length word
    by true q f = leb-true (length v) (length word) f
    by false q f = absurd (false≢true (sym q ∙ b))

class : (rest word : List ℕ) → Contains words word → begins_with rest word ≡ true → list_all (is_no_longer rest word) words ≡ true → IsClassWord words rest word
class rest word h b e = record { listed = h; begins = b; longest = λ v at f. no-longer rest word v (passes (is_no_longer rest word) words v e at) f }

row-a : IsClassWord words (codes "a") (codes "a")
row-a = class (codes "a") (codes "a") (1, omega arith, refl) refl refl

row-ab : IsClassWord words (codes "ab") (codes "ab")
row-ab = class (codes "ab") (codes "ab") (2, omega arith, refl) refl refl

row-abc : IsClassWord words (codes "abc") (codes "ab")
row-abc = class (codes "abc") (codes "ab") (2, omega arith, refl) refl refl

row-b : IsClassWord words (codes "b") []
row-b = class (codes "b") [] (0, omega arith, refl) refl refl

-- ---- members

row-member : IsMember words (codes "ab") (Some (codes "ab"))
row-member = (refl, refl)

-- a word with a blank is no key word
row-no_member : IsMember words (codes "a b") None
row-no_member = refl

row-least : IsMember words [] (Some (33 ∷ []))
row-least = (
  33,
  refl,
  record { small = omega arith; key = refl; unlisted = λ h. false≢true (passes (λ w. not (bytes_eq w (33 ∷ []))) words (33 ∷ []) refl h) },
  λ c f. leb-true 33 c (and_parts (nat_le 33 c) _ f.key).0,
)
