-- Escaped words, byte after byte.
use Rattle.std.proofs.Common.{◌≡◌, ◌≢◌, ◌∙◌, ℕ, suc, ◌+◌, ◌/◌, ◌%◌, ◌<◌, ◌≤◌, true, false, List, [], ◌∷◌, ◌++◌, length, refl, sym, ap, ap₂, subst, append_assoc, append-nil, arith, inl, inr}
use Rattle.std.specs.List.{All}
use Rattle.std.proofs.lemmas.Bool.{cases_Bool, cases_lt, lt-ltb, le-ltb}
use Rattle.std.proofs.lemmas.List.Elements.{All-head, All-tail}
use Rattle.mcv_cert.specs.Escape.{escaped, escaped_byte, hex_digit, is_plain}

abbrev pub AreBytes : List ℕ → Type 0
AreBytes word = All (λ b. b < 256) word

-- what an escaped text begins with was the word's first byte
pub next : (v : List ℕ) (x : ℕ) (xs rest out w : List ℕ) → 0 < length rest → AreBytes v → w ≡ out ++ v → rest ≡ escaped v → ((b : ℕ) (later : List ℕ) → b < 256 → rest ≡ escaped_byte b ++ later → (x ≡ b) × (xs ≡ later)) →
    (u : List ℕ) × AreBytes u × (w ≡ (out ++ x ∷ []) ++ u) × (xs ≡ escaped u)
next [] x xs rest out w some bytes split is exact = absurd (let h : ⊥ = omega (arith, ap length is) in h)
next (b ∷ v) x xs rest out w some bytes split is exact =
    let e = exact b (escaped v) (All-head (λ c. c < 256) b v bytes) is in
    (v, All-tail (λ c. c < 256) b v bytes, split ∙ ap (λ y. out ++ y ∷ v) (sym e.0) ∙ sym (append_assoc out (x ∷ []) v), e.1)

pub stops : {G : Type 0} (v rest : List ℕ) → 0 < length rest → AreBytes v → rest ≡ escaped v → ((b : ℕ) (later : List ℕ) → b < 256 → rest ≡ escaped_byte b ++ later → ⊥) → G
stops [] rest some bytes is exact = absurd (let h : ⊥ = omega (arith, ap length is) in h)
stops (b ∷ v) rest some bytes is exact = absurd (exact b (escaped v) (All-head (λ c. c < 256) b v bytes) is)

some_byte : (b : ℕ) (v : List ℕ) → length (escaped (b ∷ v)) ≡ 0 → ⊥
some_byte b v e = elim (cases_Bool (is_plain b)) [
  | inl p ↦ let k : length (escaped (b ∷ v)) ≡ suc (length (escaped v)) = rw p refl in omega (arith, k)
  | inr p ↦ let k : length (escaped (b ∷ v)) ≡ suc (suc (suc (length (escaped v)))) = rw p refl in omega (arith, k)
]

pub ended : (v rest out w : List ℕ) → length rest ≡ 0 → w ≡ out ++ v → rest ≡ escaped v → out ≡ w
ended [] rest out w none split is = sym (split ∙ append-nil out)
ended (b ∷ v) rest out w none split is = absurd (some_byte b v (sym (ap length is) ∙ none))

-- ---- two words are not escaped to one text

head_is : (x y : ℕ) (xs ys : List ℕ) → x ∷ xs ≡ y ∷ ys → x ≡ y
head_is x y xs ys is = cc

tail_is : (x y : ℕ) (xs ys : List ℕ) → x ∷ xs ≡ y ∷ ys → xs ≡ ys
tail_is x y xs ys is = cc

low_digit : (d : ℕ) → d < 10 → hex_digit d ≡ 48 + d
low_digit d l = rw (lt-ltb d 10 l) refl

high_digit : (d : ℕ) → 10 ≤ d → hex_digit d ≡ 55 + d
high_digit d l = rw (le-ltb d 10 l) refl

digit_one : (c d : ℕ) → hex_digit c ≡ hex_digit d → c ≡ d
digit_one c d e = elim (cases_lt c 10) [
  | inl p ↦ elim (cases_lt d 10) [
    | inl q ↦ omega (arith, sym (low_digit c p) ∙ e ∙ low_digit d q)
    | inr q ↦ absurd (let h : ⊥ = omega (arith, sym (low_digit c p) ∙ e ∙ high_digit d q) in h)
  ]
  | inr p ↦ elim (cases_lt d 10) [
    | inl q ↦ absurd (let h : ⊥ = omega (arith, sym (high_digit c p) ∙ e ∙ low_digit d q) in h)
    | inr q ↦ omega (arith, sym (high_digit c p) ∙ e ∙ high_digit d q)
  ]
]

abbrev three : ℕ → List ℕ
three b = 37 ∷ hex_digit (b / 16) ∷ hex_digit (b % 16) ∷ []

plain_is : (b : ℕ) → is_plain b ≡ true → escaped_byte b ≡ b ∷ []
plain_is b p = rw p refl

other_is : (b : ℕ) → is_plain b ≡ false → escaped_byte b ≡ three b
other_is b p = rw p refl

no_percent : (b : ℕ) → is_plain b ≡ true → b ≢ 37
no_percent b p is = let e : is_plain 37 ≡ true = subst (λ c. is_plain c ≡ true) is p in cc

byte_parts : (b c : ℕ) → b / 16 ≡ c / 16 → b % 16 ≡ c % 16 → b ≡ c
byte_parts b c high low = omega arith

byte_one : (b c : ℕ) (xs ys : List ℕ) → escaped_byte b ++ xs ≡ escaped_byte c ++ ys → (b ≡ c) × (xs ≡ ys)
byte_one b c xs ys e = elim (cases_Bool (is_plain b)) [
  | inl p ↦ elim (cases_Bool (is_plain c)) [
    | inl q ↦
        let h : b ∷ xs ≡ c ∷ ys = sym (ap (λ t. t ++ xs) (plain_is b p)) ∙ e ∙ ap (λ t. t ++ ys) (plain_is c q) in
        (head_is b c xs ys h, tail_is b c xs ys h)
    | inr q ↦
        let h : b ∷ xs ≡ three c ++ ys = sym (ap (λ t. t ++ xs) (plain_is b p)) ∙ e ∙ ap (λ t. t ++ ys) (other_is c q) in
        absurd (no_percent b p (head_is b 37 xs (hex_digit (c / 16) ∷ hex_digit (c % 16) ∷ ys) h))
  ]
  | inr p ↦ elim (cases_Bool (is_plain c)) [
    | inl q ↦
        let h : three b ++ xs ≡ c ∷ ys = sym (ap (λ t. t ++ xs) (other_is b p)) ∙ e ∙ ap (λ t. t ++ ys) (plain_is c q) in
        absurd (no_percent c q (sym (head_is 37 c (hex_digit (b / 16) ∷ hex_digit (b % 16) ∷ xs) ys h)))
    | inr q ↦
        let h : three b ++ xs ≡ three c ++ ys = sym (ap (λ t. t ++ xs) (other_is b p)) ∙ e ∙ ap (λ t. t ++ ys) (other_is c q) in
        let rest = tail_is 37 37 (hex_digit (b / 16) ∷ hex_digit (b % 16) ∷ xs) (hex_digit (c / 16) ∷ hex_digit (c % 16) ∷ ys) h in
        let high = digit_one (b / 16) (c / 16) (head_is (hex_digit (b / 16)) (hex_digit (c / 16)) (hex_digit (b % 16) ∷ xs) (hex_digit (c % 16) ∷ ys) rest) in
        let rest2 = tail_is (hex_digit (b / 16)) (hex_digit (c / 16)) (hex_digit (b % 16) ∷ xs) (hex_digit (c % 16) ∷ ys) rest in
        let low = digit_one (b % 16) (c % 16) (head_is (hex_digit (b % 16)) (hex_digit (c % 16)) xs ys rest2) in
        (byte_parts b c high low, tail_is (hex_digit (b % 16)) (hex_digit (c % 16)) xs ys rest2)
  ]
]

pub escaped_one : (v w : List ℕ) → escaped v ≡ escaped w → v ≡ w
escaped_one [] [] e = refl
escaped_one [] (c ∷ w) e = absurd (some_byte c w (sym (ap length e)))
escaped_one (b ∷ v) [] e = absurd (some_byte b v (ap length e))
escaped_one (b ∷ v) (c ∷ w) e =
    let both = byte_one b c (escaped v) (escaped w) e in
    ap₂ (λ (x : ℕ) (xs : List ℕ). x ∷ xs) both.0 (escaped_one v w both.1)
