-- JSON pointers of paths (RFC 6901, sections 3 and 4).
use Rattle.std.specs.Prelude.{ℕ, ◌==◌, List, ◌++◌, codes, decimal, encode_utf8, if◌then◌else◌}
use Rattle.std.specs.List.{flat_map}
use Rattle.std.specs.Str.{chars}
use Rattle.mcv_patch.specs.Patch.{Step, key, index}

-- in a key `~` is written `~0`, and `/` is written `~1`
abbrev pub pointer_char : ℕ → List ℕ
pointer_char c = if c == 126 then codes "~0" else (if c == 47 then codes "~1" else encode_utf8 c)

abbrev pub pointer_step : Step → List ℕ
pointer_step (key k) = codes "/" ++ flat_map pointer_char (chars k)
pointer_step (index i) = codes "/" ++ decimal i

abbrev pub pointer : List Step → List ℕ
pointer path = flat_map pointer_step path
