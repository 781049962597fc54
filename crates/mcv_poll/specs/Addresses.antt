-- Which address of a server is tried next (own).
use Rattle.std.specs.Prelude.{ℕ, ◌≡◌, ◌≢◌, ◌+◌, ◌⊎◌, List, Some, slice_get, nat_lt, if◌then◌else◌}

-- the place behind one among so many; the first one behind the last
abbrev pub behind : ℕ → ℕ → ℕ
behind place count = if nat_lt (place + 1) count then place + 1 else 0

module _ {A : Type 0} where
  -- a is at this place; where it is at none, the place is the first one
  abbrev pub IsPlaceOf : List A → A → ℕ → Type 0
  IsPlaceOf list a place = (slice_get list place ≡ Some a) ⊎ (((i : ℕ) → slice_get list i ≢ Some a) × (place ≡ 0))
