-- A step of a path is its first byte, or an escape of three bytes.
use Rattle.std.proofs.Common.{◌≡◌, ◌∙◌, ◌<◌, ◌+◌, ◌*◌, ◌%◌, ◌==◌, ◌&&◌, ℕ, Bool, true, false, cond, List, [], ◌∷◌, ◌++◌, ap, append_assoc, arith, drop, get_or, length, refl, sym, true≢false}
use Rattle.std.specs.Prelude.{nat_lt}
use Rattle.std.proofs.lemmas.Bool.{and_parts, lt-ltb, ltb-true}
use Rattle.std.proofs.lemmas.List.{append-nil}
use Rattle.mcv_places.specs.Pointer.{pointer_byte}
use Rattle.mcv_faults.specs.FaultPointer.{digit_value, is_escape, plain_byte, steps_pointer}

step_none : (xs : List ℕ) → length xs < 1 → steps_pointer xs ≡ []
unfolding steps_pointer
step_none [] low = refl
step_none (x ∷ xs) low = absurd (omega arith)

step_plain : (b : ℕ) (bs : List ℕ) → is_escape b bs ≡ false → steps_pointer (b ∷ bs) ≡ plain_byte b ++ steps_pointer bs
unfolding steps_pointer
step_plain b [] is = sym (append-nil (plain_byte b))
step_plain b (c ∷ []) is = refl
step_plain b (c ∷ d ∷ bs) is = go (b == 37) is
  where
    go : (e : Bool) → (e && nat_lt 1 (length (c ∷ d ∷ bs))) ≡ false
        → cond e (pointer_byte ((digit_value c * 16 + digit_value d) % 256) ++ steps_pointer bs) (plain_byte b ++ steps_pointer (c ∷ d ∷ bs)) ≡ plain_byte b ++ steps_pointer (c ∷ d ∷ bs)
    go false same = refl
    go true differs =
        let more : nat_lt 1 (length (c ∷ d ∷ bs)) ≡ true = lt-ltb 1 (length (c ∷ d ∷ bs)) (omega arith) in
        absurd (true≢false (sym more ∙ differs))

step_escaped : (b : ℕ) (bs : List ℕ) → is_escape b bs ≡ true
    → steps_pointer (b ∷ bs) ≡ pointer_byte ((digit_value (get_or bs 0 0) * 16 + digit_value (get_or bs 1 0)) % 256) ++ steps_pointer (drop 2 bs)
unfolding steps_pointer
step_escaped b [] is =
    let long : 1 < 0 = ltb-true 1 0 (and_parts (b == 37) (nat_lt 1 0) is).1 in
    absurd (omega arith)
step_escaped b (c ∷ []) is =
    let long : 1 < length (c ∷ []) = ltb-true 1 (length (c ∷ [])) (and_parts (b == 37) (nat_lt 1 (length (c ∷ []))) is).1 in
    absurd (omega arith)
step_escaped b (c ∷ d ∷ bs) is =
    let percent : (b == 37) ≡ true = (and_parts (b == 37) (nat_lt 1 (length (c ∷ d ∷ bs))) is).0 in
    rw percent refl

-- what is said where nothing is left
pub all_said : (rest items whole : List ℕ) → length rest < 1 → items ++ steps_pointer rest ≡ whole → items ≡ whole
all_said rest items whole low said = sym (append-nil items) ∙ (ap (λ (xs : List ℕ). items ++ xs) (sym (step_none rest low)) ∙ said)

-- what is said with one byte more, or with one escape more
pub plain_said : (b : ℕ) (bs before now : List ℕ) → is_escape b bs ≡ false → now ≡ before ++ plain_byte b → now ++ steps_pointer bs ≡ before ++ steps_pointer (b ∷ bs)
plain_said b bs before now is added =
    ap (λ (xs : List ℕ). xs ++ steps_pointer bs) added ∙ (append_assoc before (plain_byte b) (steps_pointer bs) ∙ ap (λ (xs : List ℕ). before ++ xs) (sym (step_plain b bs is)))

pub escape_said : (b byte : ℕ) (bs rest before now : List ℕ) → is_escape b bs ≡ true → byte ≡ (digit_value (get_or bs 0 0) * 16 + digit_value (get_or bs 1 0)) % 256 → rest ≡ drop 2 bs
    → now ≡ before ++ pointer_byte byte → now ++ steps_pointer rest ≡ before ++ steps_pointer (b ∷ bs)
escape_said b byte bs rest before now is says left added =
    let all : now ≡ before ++ pointer_byte ((digit_value (get_or bs 0 0) * 16 + digit_value (get_or bs 1 0)) % 256) = added ∙ ap (λ (n : ℕ). before ++ pointer_byte n) says in
    ap (λ (xs : List ℕ). xs ++ steps_pointer rest) all
    ∙ (append_assoc before (pointer_byte ((digit_value (get_or bs 0 0) * 16 + digit_value (get_or bs 1 0)) % 256)) (steps_pointer rest)
    ∙ (ap (λ (xs : List ℕ). before ++ (pointer_byte ((digit_value (get_or bs 0 0) * 16 + digit_value (get_or bs 1 0)) % 256) ++ steps_pointer xs)) left
    ∙ ap (λ (xs : List ℕ). before ++ xs) (sym (step_escaped b bs is))))
