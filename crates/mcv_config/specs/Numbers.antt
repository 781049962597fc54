-- Numbers of a configuration (mcrouter wiki, List of Route Handles; the bound is own).
use Rattle.std.specs.Prelude.{ℕ, nat_lt, List, Option, Some, None, if◌then◌else◌, option_and_then}
use Rattle.serde_json.specs.Data.{Data}
use Rattle.serde_json.specs.Find.{as_number, as_u64}
use Rattle.mcv_names.specs.declared.fault.FaultKind.TheVariants.{WrongKind, Limit}
use Rattle.mcv_names.specs.Fault.{Read, good, refused}

-- a value that is a number of at most 64 bits without a sign
abbrev pub number_in_value : Data → Option ℕ
number_in_value d = option_and_then as_u64 (as_number d)

abbrev pub index_found : Option ℕ → List ℕ → Read ℕ
index_found None path = refused WrongKind path
index_found (Some n) path = good n

-- a number of at most 64 bits
unfoldable pub index_read : List ℕ → Data → Read ℕ
index_read path d = index_found (number_in_value d) path

-- the greatest number of seconds (own)
abbrev pub seconds_limit : ℕ
seconds_limit = 4294967295

abbrev pub seconds_found : Option ℕ → List ℕ → Read ℕ
seconds_found None path = refused WrongKind path
seconds_found (Some n) path = if nat_lt seconds_limit n then refused Limit path else good n

-- a number of seconds
unfoldable pub seconds_read : List ℕ → Data → Read ℕ
seconds_read path d = seconds_found (number_in_value d) path

-- n where there is no such key
abbrev pub seconds_or : ℕ → List ℕ → Option Data → Read ℕ
seconds_or n path None = good n
seconds_or n path (Some d) = seconds_read path d
