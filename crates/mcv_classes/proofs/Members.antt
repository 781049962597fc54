-- Members of classes.
use Rattle.std.proofs.Common.{◌≡◌, ℕ, ◌<◌, ◌≤◌, Bool, true, false, ◌&&◌, nat_lt, nat_le, nat_eq, List, [], ◌∷◌, length, Some, None, refl, sym, ap, ◌∙◌, subst, arith}
use Rattle.std.specs.List.{All, Contains, list_all}
use Rattle.std.proofs.lemmas.List.Elements.{All-head}
use Rattle.std.proofs.lemmas.Bool.{and_parts, and_from, eqb-true, eq-eqb, false≢true, lt-ltb, le-leb, leb-true}
use Rattle.mcv_base.specs.Key.{begins_with, is_key_byte, is_key_word}
use Rattle.mcv_classes.specs.Class.{IsClassWord, IsFree, IsMember}
use Rattle.mcv_classes.specs.Words.{class_words}
use Rattle.mcv_classes.specs.Laws.{MembersAreInside, NoMemberNoRest, OneClass}
use Rattle.mcv_classes.proofs.Order.{begins-itself, begins-same, length-begins, shorter-begins}

pub one_class : OneClass
one_class words rest v w a b =
    let short : length v ≤ length w = b.longest v a.listed a.begins in
    let long : length w ≤ length v = a.longest w b.listed b.begins in
    sym (begins-same w v (shorter-begins rest v w a.begins b.begins short) long)

-- ---- a member is in its class

-- one byte that is no word begins with the empty word alone
only-empty : (words : List (List ℕ)) (b : ℕ) (v : List ℕ) → IsFree words b → Contains words v → begins_with (b ∷ []) v ≡ true → length v ≤ 0
only-empty words b [] f h e = omega arith
only-empty words b (x ∷ []) f h e =
    let same : b ≡ x = eqb-true b x (and_parts (nat_eq b x) true e).0 in
    absurd (f.unlisted (subst (λ y. Contains words (y ∷ [])) (sym same) h))
only-empty words b (x ∷ y ∷ v) f h e = absurd (false≢true (and_parts (nat_eq b x) false e).1)

abbrev IsInside : List (List ℕ) → List ℕ → List ℕ → Type 0
IsInside words word member = IsClassWord words member word × (is_key_word member ≡ true)

free-inside : (words : List (List ℕ)) (b : ℕ) → IsFree words b → Contains words [] → IsInside words [] (b ∷ [])
free-inside words b f h = (record { listed = h; begins = refl; longest = λ v at e. only-empty words b v f at e }, and_from (is_key_byte b) true f.key refl)

word-inside : (words : List (List ℕ)) (word : List ℕ) → Contains words word → is_key_word word ≡ true → IsInside words word word
word-inside words word h key = (record { listed = h; begins = begins-itself word; longest = λ v at e. length-begins word v e }, key)

inside : (words : List (List ℕ)) (word member : List ℕ) → IsMember words word (Some member) → Contains words word → IsInside words word member
inside words [] member m h = subst (IsInside words []) (sym m.1) (free-inside words m.0 m.2 h)
inside words (b ∷ word) member m h = subst (IsInside words (b ∷ word)) (sym m.0) (word-inside words (b ∷ word) h m.1)

pub members_are_inside : MembersAreInside
members_are_inside t word member m h = inside (class_words t) word member m h

-- ---- a class without a member has no rests

begins-all : (p : ℕ → Bool) (rest word : List ℕ) → list_all p rest ≡ true → begins_with rest word ≡ true → list_all p word ≡ true
begins-all p rest [] e f = refl
begins-all p [] (i ∷ word) e f = absurd (false≢true f)
begins-all p (k ∷ rest) (i ∷ word) e f =
    let a = and_parts (p k) (list_all p rest) e in
    let b = and_parts (nat_eq k i) (begins_with rest word) f in
    and_from (p i) (list_all p word) (ap p (sym (eqb-true k i b.0)) ∙ a.0) (begins-all p rest word a.1 b.1)

-- what is in a key word
key-parts : (word : List ℕ) → is_key_word word ≡ true → (length word ≤ 250) × (list_all is_key_byte word ≡ true)
key-parts word e =
    let a = and_parts (nat_lt 0 (length word)) (nat_le (length word) 250 && list_all is_key_byte word) e in
    let b = and_parts (nat_le (length word) 250) (list_all is_key_byte word) a.1 in
    (leb-true (length word) 250 b.0, b.1)

-- with what a key word begins is a key word
pub begins-key : (rest word : List ℕ) → is_key_word rest ≡ true → begins_with rest word ≡ true → 0 < length word → is_key_word word ≡ true
begins-key rest word key e some =
    let k = key-parts rest key in
    let short : length word ≤ 250 = omega (arith, k.0, length-begins rest word e) in
    and_from (nat_lt 0 (length word)) (nat_le (length word) 250 && list_all is_key_byte word) (lt-ltb 0 (length word) some)
    (and_from (nat_le (length word) 250) (list_all is_key_byte word) (le-leb (length word) 250 short) (begins-all is_key_byte rest word k.1 e))

-- the first byte of a rest that begins with no word but the empty one
pub first-free : (words : List (List ℕ)) (b : ℕ) (more : List ℕ) → is_key_word (b ∷ more) ≡ true → b < 256 → IsClassWord words (b ∷ more) [] → IsFree words b
first-free words b more key small c = record {
  small = small;
  key = (and_parts (is_key_byte b) (list_all is_key_byte more) (key-parts (b ∷ more) key).1).0;
  unlisted = λ h. let long : length (b ∷ []) ≤ 0 = c.longest (b ∷ []) h (and_from (nat_eq b b) true (eq-eqb b b refl) refl) in absurd (omega (arith, long));
}

no-rest : (words : List (List ℕ)) (word rest : List ℕ) → IsMember words word None → is_key_word rest ≡ true → All (λ b. b < 256) rest → IsClassWord words rest word → ⊥
no-rest words [] [] m key small c = false≢true key
no-rest words [] (b ∷ rest) m key small c = m b (first-free words b rest key (All-head (λ x. x < 256) b rest small) c)
no-rest words (b ∷ word) rest m key small c =
    let some : 0 < length (b ∷ word) = omega arith in
    false≢true (sym m ∙ begins-key rest (b ∷ word) key c.begins some)

pub no_member_no_rest : NoMemberNoRest
no_member_no_rest t word rest m key small c = no-rest (class_words t) word rest m key small c
