-- The text of a path: `/` and then the key or the list number, for each step (own).
use Rattle.std.specs.Prelude.{ℕ, ◌+◌, ◌/◌, ◌%◌, ◌||◌, ◌==◌, nat_lt, List, [], ◌∷◌, ◌++◌, Bool, if◌then◌else◌, decimal}
use Rattle.std.specs.List.{flat_map}
use Rattle.mcv_names.specs.declared.trail.Trail.{Trail, fold-Trail}
use Rattle.mcv_names.specs.declared.trail.Trail.TheOpen.{Trail-F}

abbrev pub hex_digit : ℕ → ℕ
hex_digit n = if nat_lt n 10 then 48 + n else 55 + n

-- `/` and `%` and bytes outside 33 to 126 are written `%` and two hexadecimal digits
abbrev pub is_escaped : ℕ → Bool
is_escaped b = nat_lt b 33 || nat_lt 126 b || b == 37 || b == 47

abbrev pub escaped_byte : ℕ → List ℕ
escaped_byte b = if is_escaped b then 37 ∷ hex_digit (b / 16) ∷ hex_digit (b % 16) ∷ [] else b ∷ []

abbrev pub key_step : List ℕ → List ℕ → List ℕ
key_step path key = path ++ 47 ∷ flat_map escaped_byte key

abbrev pub item_step : List ℕ → ℕ → List ℕ
item_step path index = path ++ 47 ∷ decimal index

-- the steps that a reader has gone
abbrev pub path_step : Trail-F (List ℕ) → List ℕ
path_step Trail-F.Root = []
path_step (Trail-F.Key before key) = key_step before.now key.now
path_step (Trail-F.Item before index) = item_step before.now index

abbrev pub path_of : Trail → List ℕ
path_of = fold-Trail (List ℕ) path_step
