-- What a key word's routing prefix is, by the slashes that are found in it.
use Rattle.std.proofs.Common.{◌≡◌, ◌≢◌, ◌∙◌, ℕ, ◌+◌, ◌<◌, ◌≤◌, true, not, nat_lt, nat_le, ◌&&◌, ◌==◌, MatchOption, unwrap_or, length-drop, List, [], ◌∷◌, ◌++◌, length, take, drop, Option, Some, None, zero, suc, refl, ap, ap₂, sym, arith, length-append, append_assoc}
use Rattle.std.proofs.lemmas.List.{take_at}
use Rattle.std.proofs.lemmas.Bool.Decides.{Decides-eqb, nat_tests}
use Rattle.std.specs.List.{list_all}
use Rattle.std.specs.Prelude.{⊤}
use Rattle.memchr.specs.Find.{IsFirstByte, is_byte}
use Rattle.mcv_base.specs.Key.{lacks, slash, IsNamed, IsUnnamed, IsRoutingPrefix, IsUnrouted, IsCut, is_key_byte, is_key_word}
use Rattle.mcv_base.proofs.Cuts.{both, joined, first_cuts, none_at_cut, never_both}

head_is : (x y : ℕ) (xs ys : List ℕ) → x ∷ xs ≡ y ∷ ys → x ≡ y
head_is x y xs ys is = cc

tail_is : (x y : ℕ) (xs ys : List ℕ) → x ∷ xs ≡ y ∷ ys → xs ≡ ys
tail_is x y xs ys is = cc

-- a list has one cut at its first byte c
pub one_cut : (c : ℕ) (xs zs ys vs : List ℕ) → lacks c xs ≡ true → lacks c ys ≡ true → xs ++ c ∷ zs ≡ ys ++ c ∷ vs → (xs ≡ ys) × (zs ≡ vs)
one_cut c [] zs [] vs l m is = (refl, tail_is c c zs vs is)
one_cut c [] zs (y ∷ ys) vs l m is =
    absurd (never_both (y == c) (both (not (y == c)) (lacks c ys) m).0 ((Decides-eqb y c).1 (sym (head_is c y zs (ys ++ c ∷ vs) is))))
one_cut c (x ∷ xs) zs [] vs l m is =
    absurd (never_both (x == c) (both (not (x == c)) (lacks c xs) l).0 ((Decides-eqb x c).1 (head_is x c (xs ++ c ∷ zs) vs is)))
one_cut c (x ∷ xs) zs (y ∷ ys) vs l m is =
    let more = one_cut c xs zs ys vs (both (not (x == c)) (lacks c xs) l).1 (both (not (y == c)) (lacks c ys) m).1 (tail_is x y (xs ++ c ∷ zs) (ys ++ c ∷ vs) is) in
    (ap₂ (λ (b : ℕ) (bs : List ℕ). b ∷ bs) (head_is x y (xs ++ c ∷ zs) (ys ++ c ∷ vs) is) more.0, more.1)

take_some : (k : ℕ) (xs : List ℕ) → (k ≡ 0 → ⊥) → k < length xs → take k xs ≢ []
take_some zero xs some lt is = some refl
take_some (suc k) [] some lt is = omega arith
take_some (suc k) (x ∷ xs) some lt is = cc

length-take-below : (k : ℕ) (xs : List ℕ) → k < length xs → length (take k xs) ≡ k
length-take-below zero xs lt = refl
length-take-below (suc k) [] lt = absurd (let h : ⊥ = omega arith in h)
length-take-below (suc k) (x ∷ xs) lt = ap suc (length-take-below k xs (omega arith))

-- a name ends at the first slash
pub named_at : (bytes : List ℕ) (k : ℕ) → (k ≡ 0 → ⊥) → IsFirstByte (is_byte slash) bytes (Some k) → IsNamed bytes (k + 1)
named_at bytes k some first =
    let cut = first_cuts slash bytes k first.0.high first.1 (λ j below. first.0.before j (omega arith) below) in
    let next : suc k ≡ k + 1 = omega arith in
    record {
      name = take k bytes;
      name_is = record { some = take_some k bytes some first.0.high; no_slash = cut.0 };
      is = cut.1 ∙ ap (λ n. take k bytes ++ slash ∷ drop n bytes) next;
      len = ap (λ n. n + 1) (sym (length-take-below k bytes first.0.high));
    }

pub unnamed_without : (bytes : List ℕ) → IsFirstByte (is_byte slash) bytes None → IsUnnamed bytes
unnamed_without bytes none name more name_is is = none_at_cut slash bytes name more is none

-- ---- routing prefixes

-- the word behind its first slash begins with the two names
names_of : (bytes prefix rest : List ℕ) (p : IsRoutingPrefix prefix) → slash ∷ bytes ≡ prefix ++ rest
    → bytes ≡ p.first ++ slash ∷ (p.second ++ slash ∷ rest)
names_of bytes prefix rest p is =
    let whole : slash ∷ bytes ≡ ((slash ∷ p.first ++ slash ∷ p.second) ++ slash ∷ []) ++ rest = is ∙ ap (λ xs. xs ++ rest) p.is in
    let one : ((slash ∷ p.first ++ slash ∷ p.second) ++ slash ∷ []) ++ rest ≡ (slash ∷ p.first ++ slash ∷ p.second) ++ slash ∷ rest =
    append_assoc (slash ∷ p.first ++ slash ∷ p.second) (slash ∷ []) rest in
    let two : (slash ∷ p.first ++ slash ∷ p.second) ++ slash ∷ rest ≡ slash ∷ p.first ++ (slash ∷ p.second ++ slash ∷ rest) =
    append_assoc (slash ∷ p.first) (slash ∷ p.second) (slash ∷ rest) in
    tail_is slash slash bytes (p.first ++ slash ∷ (p.second ++ slash ∷ rest)) (whole ∙ one ∙ two)

pub unrouted_by_byte : (b : ℕ) (bytes : List ℕ) → b ≢ slash → IsUnrouted (b ∷ bytes)
unrouted_by_byte b bytes other prefix rest p is =
    let whole : b ∷ bytes ≡ slash ∷ (p.first ++ (slash ∷ p.second ++ (slash ∷ rest))) =
    is ∙ ap (λ xs. xs ++ rest) p.is ∙ append_assoc (slash ∷ p.first ++ slash ∷ p.second) (slash ∷ []) rest
    ∙ append_assoc (slash ∷ p.first) (slash ∷ p.second) (slash ∷ rest) in
    other (head_is b slash bytes (p.first ++ (slash ∷ p.second ++ (slash ∷ rest))) whole)

pub unrouted_second : (bytes : List ℕ) (n : ℕ) → IsNamed bytes n → IsUnnamed (drop n bytes) → IsUnrouted (slash ∷ bytes)
unrouted_second bytes n named un prefix rest p is =
    let cut = one_cut slash named.name (drop n bytes) p.first (p.second ++ slash ∷ rest) named.name_is.no_slash p.first_is.no_slash
    (sym named.is ∙ names_of bytes prefix rest p is) in
    un p.second rest p.second_is cut.1

two_names : (bytes : List ℕ) (n m : ℕ) (a : IsNamed bytes n) (b : IsNamed (drop n bytes) m)
    → slash ∷ bytes ≡ (slash ∷ a.name ++ slash ∷ b.name ++ slash ∷ []) ++ drop m (drop n bytes)
two_names bytes n m a b =
    let tail = drop m (drop n bytes) in
    let inner : bytes ≡ a.name ++ slash ∷ (b.name ++ slash ∷ tail) = a.is ∙ ap (λ xs. a.name ++ slash ∷ xs) b.is in
    ap (λ xs. slash ∷ xs) inner
    ∙ sym (append_assoc (slash ∷ a.name) (slash ∷ b.name) (slash ∷ tail))
    ∙ sym (append_assoc (slash ∷ a.name ++ slash ∷ b.name) (slash ∷ []) tail)

pub routed_by : (bytes : List ℕ) (n m : ℕ) → IsNamed bytes n → IsNamed (drop n bytes) m → IsRoutingPrefix (take (1 + n + m) (slash ∷ bytes))
routed_by bytes n m a b =
    let prefix = slash ∷ a.name ++ slash ∷ b.name ++ slash ∷ [] in
    let len : length prefix ≡ 1 + n + m =
    omega (arith, length-append (slash ∷ a.name ++ slash ∷ b.name) (slash ∷ []), length-append (slash ∷ a.name) (slash ∷ b.name), a.len, b.len) in
    record {
      first = a.name;
      second = b.name;
      first_is = a.name_is;
      second_is = b.name_is;
      is = ap (take (1 + n + m)) (two_names bytes n m a b) ∙ take_at prefix (drop m (drop n bytes)) (1 + n + m) len;
    }

-- ---- one reading

same_prefix : (prefix other rest more : List ℕ) (p : IsRoutingPrefix prefix) (q : IsRoutingPrefix other) → prefix ++ rest ≡ other ++ more
    → (prefix ≡ other) × (rest ≡ more)
same_prefix prefix other rest more p q is =
    let bytes = p.first ++ slash ∷ (p.second ++ slash ∷ rest) in
    let word : slash ∷ bytes ≡ prefix ++ rest =
    sym (ap (λ xs. xs ++ rest) p.is ∙ append_assoc (slash ∷ p.first ++ slash ∷ p.second) (slash ∷ []) rest
    ∙ append_assoc (slash ∷ p.first) (slash ∷ p.second) (slash ∷ rest)) in
    let first = one_cut slash p.first (p.second ++ slash ∷ rest) q.first (q.second ++ slash ∷ more) p.first_is.no_slash q.first_is.no_slash
    (names_of bytes other more q (word ∙ is)) in
    let second = one_cut slash p.second rest q.second more p.second_is.no_slash q.second_is.no_slash first.1 in
    (p.is ∙ ap₂ (λ (x y : List ℕ). slash ∷ x ++ slash ∷ y ++ slash ∷ []) first.0 second.0 ∙ sym q.is, second.1)

pub one_reading : (word prefix rest other more : List ℕ) → IsCut word prefix rest → IsCut word other more → (prefix ≡ other) × (rest ≡ more)
one_reading word prefix rest other more (IsCut.routed p is) (IsCut.routed q be) = same_prefix prefix other rest more p q (sym is ∙ be)
one_reading word prefix rest other more (IsCut.routed p is) (IsCut.unrouted un q be) = absurd (un prefix rest p is)
one_reading word prefix rest other more (IsCut.unrouted un p is) (IsCut.routed q be) = absurd (un other more q be)
one_reading word prefix rest other more (IsCut.unrouted un p is) (IsCut.unrouted un2 q be) = (p ∙ sym q, is ∙ sym be)

append_nil : (xs : List ℕ) → xs ≡ xs ++ []
append_nil [] = refl
append_nil (x ∷ xs) = ap (λ ys. x ∷ ys) (append_nil xs)

pub no_rest : (word prefix rest : List ℕ) → IsRoutingPrefix word → IsCut word prefix rest → rest ≡ []
no_rest word prefix rest p cut = (one_reading word prefix rest word [] cut (IsCut.routed p (append_nil word))).1

-- ---- want of a rest

all_behind : (n : ℕ) (xs : List ℕ) → list_all is_key_byte xs ≡ true → list_all is_key_byte (drop n xs) ≡ true
all_behind zero xs all = all
all_behind (suc n) [] all = refl
all_behind (suc n) (x ∷ xs) all = all_behind n xs (both (is_key_byte x) (list_all is_key_byte xs) all).1

pub key_word_of : (word : List ℕ) → 0 < length word → length word ≤ 250 → list_all is_key_byte word ≡ true → is_key_word word ≡ true
key_word_of word some short all =
    let low : nat_lt 0 (length word) ≡ true = grind (arith, nat_tests) in
    let high : nat_le (length word) 250 ≡ true = grind (arith, nat_tests) in
    joined (nat_lt 0 (length word)) (nat_le (length word) 250 && list_all is_key_byte word) low
    (joined (nat_le (length word) 250) (list_all is_key_byte word) high all)

pub prefix_within : (word : List ℕ) (r : Option ℕ) (cut : ℕ) → MatchOption r ⊤ (λ n. n ≤ length word) → cut ≡ unwrap_or r 0 → cut ≤ length word
prefix_within word None cut within is = omega (arith, is)
prefix_within word (Some n) cut within is = omega (arith, within, is)

-- what is behind a part of a key word is one, where there is something
pub rest_is_key : (word : List ℕ) (n : ℕ) → length word ≤ 250 → list_all is_key_byte word ≡ true → n < length word → is_key_word (drop n word) ≡ true
rest_is_key word n short all low = key_word_of (drop n word) (omega (arith, length-drop n word, low)) (omega (arith, length-drop n word, short)) (all_behind n word all)
