-- The JSON pointer (RFC 6901) of a fault's path (own).
use Rattle.std.specs.Prelude.{ℕ, Bool, ◌+◌, ◌*◌, ◌-◌, ◌%◌, ◌==◌, ◌&&◌, length, List, [], ◌∷◌, ◌++◌, codes, if◌then◌else◌, nat_lt, bytes_eq}
use Rattle.mcv_places.specs.Pointer.{pointer_byte}

-- the value of an upper case hexadecimal digit
abbrev pub digit_value : ℕ → ℕ
digit_value d = if nat_lt d 58 then d - 48 else d - 55

-- a byte of a path that isn't written with a percent sign: a slash is that between two steps
abbrev pub plain_byte : ℕ → List ℕ
plain_byte b = if b == 126 then codes "~0" else b ∷ []

-- a percent sign and two digits behind it are a byte of a key
abbrev pub is_escape : ℕ → (behind : List ℕ) → Bool
is_escape b bs = b == 37 && nat_lt 1 (length bs)

-- the steps of a path
unfoldable pub steps_pointer : List ℕ → List ℕ
steps_pointer [] = []
steps_pointer (b ∷ []) = plain_byte b
steps_pointer (b ∷ c ∷ []) = plain_byte b ++ plain_byte c
steps_pointer (b ∷ c ∷ d ∷ bs) =
    if b == 37 then pointer_byte ((digit_value c * 16 + digit_value d) % 256) ++ steps_pointer bs else plain_byte b ++ steps_pointer (c ∷ d ∷ bs)

-- the path `.` is the root's, whose pointer is empty
abbrev pub fault_pointer : (path : List ℕ) → List ℕ
fault_pointer path = if bytes_eq path (codes ".") then [] else steps_pointer path
