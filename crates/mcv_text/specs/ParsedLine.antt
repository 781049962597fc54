-- What the code makes of a line, read as the values of `Line`; no public contract cites this.
use Rattle.std.specs.Prelude.{◌≡◌, ◌^◌, ℕ, ℤ, List, true, false, ◌≤◌, ◌<◌, Option, Some, None}
use Rattle.std.specs.List.{list_all}
use Rattle.mcv_base.specs.Key.{is_key_word}
use Rattle.mcv_text.specs.declared.line.Meaning.{Meaning}
use Rattle.mcv_text.specs.declared.line.Meaning.TheVariants.{Whole, Stores, Unknown, Bad, TooLarge}
use Rattle.mcv_text.specs.Request.{request_value, header_value}
use Rattle.mcv_text.specs.Words.{number32_said, signed_said}
use Rattle.mcv_text.specs.Line.{LineValue, whole, stores, unknown, bad, too_large}

abbrev pub line_value : Meaning → LineValue
line_value (Whole request) = whole (request_value request)
line_value (Stores header n) = stores (header_value header) n
line_value Unknown = unknown
line_value Bad = bad
line_value (TooLarge n) = too_large n

-- its sizes: a value that is kept is within the limit, one that is passed over has 32 bits
abbrev pub IsSmall : Meaning → Type 0
IsSmall (Whole request) = Unit {0}
IsSmall (Stores header n) = n ≤ 1048576
IsSmall Unknown = Unit {0}
IsSmall Bad = Unit {0}
IsSmall (TooLarge n) = n < 2 ^ 32

-- flags, expiry time and size of a storing line, where each reads
abbrev pub all_three : Option ℕ → Option ℤ → Option ℕ → Option (ℕ × ℤ × ℕ)
all_three (Some flags) (Some exptime) (Some size) = Some (flags, exptime, size)
all_three flags exptime size = None

abbrev pub numbers_said : List ℕ → List ℕ → List ℕ → Option (ℕ × ℤ × ℕ)
numbers_said flags exptime size = all_three (number32_said flags) (signed_said exptime) (number32_said size)

-- the keys, where each of the words is one
abbrev pub KeysRead : Option (List (List ℕ)) → List (List ℕ) → Type 0
KeysRead None words = list_all is_key_word words ≡ false
KeysRead (Some keys) words = (list_all is_key_word words ≡ true) × (keys ≡ words)
