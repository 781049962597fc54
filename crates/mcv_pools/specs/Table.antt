-- Tables: lists with nothing twice, whose entries are numbered by their places, from 0.
use Rattle.std.specs.Prelude.{◌≡◌, ℕ, Bool, List, [], ◌∷◌, ◌++◌, Option, Some, fold, position, slice_get, if◌then◌else◌}
use Rattle.std.specs.List.{list_any}

-- nothing is at two places
abbrev pub IsOneToOne : {A : Type 0} → List A → Type 0
IsOneToOne {A} table = (i j : ℕ) (x : A) → slice_get table i ≡ Some x → slice_get table j ≡ Some x → i ≡ j

module _ {A : Type 0} (same : A → A → Bool) where
  abbrev pub is_in : List A → A → Bool
  is_in table x = list_any (same x) table

  -- the number of x, if it is there
  abbrev pub number_in : List A → A → Option ℕ
  number_in table x = position (same x) table

  -- what is not there goes last
  abbrev pub with_entry : List A → A → List A
  with_entry table x = if is_in table x then table else table ++ x ∷ []

  -- the table of what comes one after another: numbers by first appearance (own)
  abbrev pub numbered : List A → List A
  numbered xs = fold with_entry [] xs

-- distinct servers of one configuration (own)
abbrev pub server_limit : ℕ
server_limit = 65536
