-- JSON values of a report (own).
use Rattle.std.specs.Prelude.{◌≡◌, ℕ, List, [], ◌∷◌, ◌++◌, Option, Some, None, codes}
use Rattle.std.specs.Str.Lossy.{utf8_lossy}
use Rattle.serde_json.specs.Data.{Data, null, number, unsigned, string, array, object, Members, no_members, member}
use Rattle.serde_json.specs.Read.{read}
use Rattle.serde_json.specs.View.{items_of}

-- the members in this order, which has to be the byte order of their keys
abbrev pub members_from : List (List ℕ × Data) → Members
members_from [] = no_members
members_from (m ∷ ms) = member m.0 m.1 (members_from ms)

abbrev pub object_from : List (List ℕ × Data) → Data
object_from ms = object (members_from ms)

abbrev pub number_from : ℕ → Data
number_from n = number (unsigned n)

-- a number, or null
abbrev pub number_or_null : Option ℕ → Data
number_or_null None = null
number_or_null (Some n) = number_from n

-- bytes as a text; where they are no UTF-8, with replacement characters
abbrev pub text_from : List ℕ → Data
text_from bytes = string (utf8_lossy bytes)

abbrev pub list_from : List Data → Data
list_from ds = array (items_of ds)

-- the version of the schema
abbrev pub schema_version : ℕ
schema_version = 1

-- the text is JSON that reads as the value, and a line feed
abbrev pub IsJsonOf : (text : List ℕ) → Data → Type 0
IsJsonOf text d = (json : List ℕ) × (text ≡ json ++ codes "\n") × (read json ≡ Some d)
