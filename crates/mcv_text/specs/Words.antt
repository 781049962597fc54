-- The words of a line, and what single words read as (memcached, protocol.txt).
use Rattle.std.specs.Prelude.{ℕ, ℤ, pos, neg_ℤ, List, [], ◌∷◌, Bool, true, false, ◌&&◌, not, ◌==◌, ◌-◌, ◌^◌, ◌≡◌, length, nat_le, nat_lt, Option, Some, None, if◌then◌else◌, codes}
use Rattle.std.specs.List.{filter, slice_split, list_all}
use Rattle.std.specs.Option.{option_map}
use Rattle.std.specs.Char.{digit_value}
use Rattle.std.specs.Str.{bytes_eq}
use Rattle.std.specs.Str.Lines.{strip_carriage_return}
use Rattle.std.specs.Str.Parse.{IsNumeral, digits_value}

abbrev pub is_space : ℕ → Bool
is_space b = b == 32

-- the non-empty parts between spaces
abbrev pub words : List ℕ → List (List ℕ)
words line = filter (λ word. not (length word == 0)) (slice_split is_space line)

-- those of a line that ends at its LF; one CR before it is dropped
abbrev pub line_words : List ℕ → List (List ℕ)
line_words line = words (strip_carriage_return line)

abbrev pub is_digit : ℕ → Bool
is_digit c = nat_lt (digit_value c) 10

-- the number that a word of decimal digits spells, up to a limit; leading zeros are allowed, signs aren't
abbrev pub number_said : ℕ → List ℕ → Option ℕ
number_said limit word = if nat_lt 0 (length word) && (list_all is_digit word && nat_le (digits_value 10 word) limit) then Some (digits_value 10 word) else None

-- 32 and 64 bits without a sign
abbrev pub number32_said : List ℕ → Option ℕ
number32_said word = number_said (2 ^ 32 - 1) word

abbrev pub number64_said : List ℕ → Option ℕ
number64_said word = number_said (2 ^ 64 - 1) word

-- 64 bits with a minus sign or none; a plus sign isn't read
abbrev pub signed_said : List ℕ → Option ℤ
signed_said [] = None
signed_said (b ∷ digits) =
    if b == 45 then option_map (λ n. neg_ℤ (pos n)) (number_said (2 ^ 63) digits)
    else option_map (λ n. pos n) (number_said (2 ^ 63 - 1) (b ∷ digits))

-- the optional word at the end of a line: whether it is there, and None where something else is
abbrev pub noreply_said : List (List ℕ) → Option Bool
noreply_said [] = Some false
noreply_said (word ∷ []) = if bytes_eq word (codes "noreply") then Some true else None
noreply_said (word ∷ other ∷ more) = None

-- the same for delete, where a word `0` may come before it
abbrev pub delete_options_said : List (List ℕ) → Option Bool
delete_options_said [] = Some false
delete_options_said (word ∷ more) = if bytes_eq word (codes "0") then noreply_said more else noreply_said (word ∷ more)

-- the word spells this number
abbrev pub IsNumber : List ℕ → ℕ → Type 0
IsNumber word n = IsNumeral 10 word × (digits_value 10 word ≡ n)
