-- JSON pointers (RFC 6901, sections 3 and 4).
use Rattle.std.specs.Prelude.{ℕ, ◌==◌, List, ◌∷◌, [], ◌++◌, codes, decimal, if◌then◌else◌}
use Rattle.std.specs.List.{flat_map}

-- in a key `~` is written `~0`, and `/` is written `~1`
abbrev pub pointer_byte : ℕ → List ℕ
pointer_byte b = if b == 126 then codes "~0" else (if b == 47 then codes "~1" else b ∷ [])

-- the member of this key, of the object at the pointer
abbrev pub key_pointer : List ℕ → List ℕ → List ℕ
key_pointer pointer key = pointer ++ codes "/" ++ flat_map pointer_byte key

-- value number i of the list at the pointer
abbrev pub item_pointer : List ℕ → ℕ → List ℕ
item_pointer pointer i = pointer ++ codes "/" ++ decimal i
