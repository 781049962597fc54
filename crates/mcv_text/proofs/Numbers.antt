-- The value of digits, one after the other.
use Rattle.std.proofs.Common.{◌≡◌, ℕ, suc, zero, ◌+◌, ◌*◌, ◌<◌, ◌≤◌, List, [], ◌∷◌, ◌++◌, length, get_or, take, drop, refl, sym, ap, ◌∙◌, arith}
use Rattle.std.specs.Char.{digit_value}
use Rattle.std.specs.Str.Parse.{AllDigits, digits_value, digits_value_after}
use Rattle.std.proofs.lemmas.List.{take-append-drop}
use Rattle.std.proofs.lemmas.Int.Digits.{digits_value_more}
use Rattle.std.proofs.Common.{Bool, true, false, cond, ◌&&◌, ltb, leb, Option, Some, None, MatchOption}
use Rattle.std.specs.List.{list_all}
use Rattle.std.proofs.lemmas.Bool.{lt-ltb, ltb-true, leb-true, le-leb, and_parts}
use Rattle.mcv_text.specs.Words.{IsNumber, is_digit, number_said}

after_ge : (n : ℕ) (ds : List ℕ) → n ≤ digits_value_after 10 n ds
after_ge n [] = omega arith
after_ge n (c ∷ ds) = omega (arith, after_ge (n * 10 + digit_value c) ds)

after_append : (n : ℕ) (xs ys : List ℕ) → digits_value_after 10 n (xs ++ ys) ≡ digits_value_after 10 (digits_value_after 10 n xs) ys
after_append n [] ys = refl
after_append n (c ∷ xs) ys = after_append (n * 10 + digit_value c) xs ys

-- a front is worth no more than the whole
pub front_value : (k : ℕ) (word : List ℕ) → digits_value 10 (take k word) ≤ digits_value 10 word
front_value k word =
    let whole : digits_value 10 word ≡ digits_value_after 10 (digits_value 10 (take k word)) (drop k word) = ap (digits_value 10) (sym (take-append-drop k word)) ∙ after_append 0 (take k word) (drop k word) in
    omega (arith, after_ge (digits_value 10 (take k word)) (drop k word))

-- each place of a numeral has a digit
pub digit_there : (word : List ℕ) (i : ℕ) → AllDigits 10 word → i < length word → digit_value (get_or word i 0) < 10
digit_there [] i all l = absurd (omega arith)
digit_there (c ∷ word) zero all l = all.0
digit_there (c ∷ word) (suc i) all l = digit_there word i all.1 (omega arith)

pub not_number : (word : List ℕ) (i b n limit : ℕ) → i < length word → b ≡ get_or word i 0 → 10 ≤ digit_value b → IsNumber word n → limit < n
not_number word i b n limit l is big number =
    let small = digit_there word i number.0.1 l in
    absurd (omega (arith, ap digit_value is))

-- too great a front makes too great a number
pub over : (word : List ℕ) (i value digit n limit : ℕ) → i < length word → value ≡ digits_value 10 (take i word) → digit ≤ digit_value (get_or word i 0) → limit < value * 10 + digit → IsNumber word n → limit < n
over word i value digit n limit l is d big number =
    omega (arith, front_value (i + 1) word, digits_value_more 10 word i l, number.1)

digits_pass : (word : List ℕ) → AllDigits 10 word → list_all is_digit word ≡ true
digits_pass [] h = refl
digits_pass (c ∷ word) h = ap (λ b. b && list_all is_digit word) (lt-ltb (digit_value c) 10 h.0) ∙ digits_pass word h.1

pass_digits : (word : List ℕ) → list_all is_digit word ≡ true → AllDigits 10 word
pass_digits [] h = tt
pass_digits (c ∷ word) h =
    let both = and_parts (is_digit c) (list_all is_digit word) h in
    (ltb-true (digit_value c) 10 both.0, pass_digits word both.1)

not_a_number : (word : List ℕ) (limit : ℕ) → ((n : ℕ) → IsNumber word n → limit < n) → (a b c : Bool) → ltb 0 (length word) ≡ a → list_all is_digit word ≡ b → leb (digits_value 10 word) limit ≡ c → None ≡ cond (a && (b && c)) (Some (digits_value 10 word)) None
not_a_number word limit none false b c ea eb ec = refl
not_a_number word limit none true false c ea eb ec = refl
not_a_number word limit none true true false ea eb ec = refl
not_a_number word limit none true true true ea eb ec =
    let over = none (digits_value 10 word) ((ltb-true _ _ ea, pass_digits word eb), refl) in
    let under = leb-true _ _ ec in
    absurd (omega arith)

-- a number, or none up to the limit, is what the word says
pub number_is : (word : List ℕ) (limit : ℕ) (r : Option ℕ) → MatchOption r ((n : ℕ) → IsNumber word n → limit < n) (λ n. IsNumber word n × (n ≤ limit)) → r ≡ number_said limit word
number_is word limit None h = not_a_number word limit h (ltb 0 (length word)) (list_all is_digit word) (leb (digits_value 10 word) limit) refl refl refl
number_is word limit (Some n) h =
    ap Some (sym h.0.1)
    ∙ sym (ap (λ b. cond (b && (list_all is_digit word && leb (digits_value 10 word) limit)) (Some (digits_value 10 word)) None) (lt-ltb 0 (length word) h.0.0.0)
    ∙ ap (λ b. cond (b && leb (digits_value 10 word) limit) (Some (digits_value 10 word)) None) (digits_pass word h.0.0.1)
    ∙ ap (λ b. cond b (Some (digits_value 10 word)) None) (le-leb (digits_value 10 word) limit (omega (arith, h.0.1, h.1))))
