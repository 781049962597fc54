-- The number that is hashed.
use Rattle.std.specs.Prelude.{ℕ, List, [], ◌∷◌, length, nat_eq, cond, slice_index}
use Rattle.std.specs.Int.{w64, from_le_bytes}

-- the number of which these are the eight bytes, the lowest first; 0 of another count of bytes
abbrev pub number_of : List ℕ → ℕ
number_of bs = cond (nat_eq (length bs) 8) (from_le_bytes w64 (slice_index bs 0 ∷ slice_index bs 1 ∷ slice_index bs 2 ∷ slice_index bs 3 ∷ slice_index bs 4 ∷ slice_index bs 5 ∷ slice_index bs 6 ∷ slice_index bs 7 ∷ [])) 0
