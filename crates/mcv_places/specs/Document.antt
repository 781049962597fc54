-- The JSON value that the text of a configuration is.
use Rattle.std.specs.Prelude.{◌≡◌, IsUtf8, List, Some, ℕ}
use Rattle.serde_json.specs.Data.{Data}
use Rattle.serde_json.specs.Read.{read}
use Rattle.mcv_comments.specs.Comments.{Strips}

-- the text without comments is JSON, and reads as this value (RFC 8259)
abbrev pub IsValueOf : (json : List ℕ) → Data → Type 0
IsValueOf json d = IsUtf8 json × (read json ≡ Some d)

abbrev pub IsNoJson : (json : List ℕ) → Type 0
IsNoJson json = (d : Data) → ¬ IsValueOf json d

-- the text without its comments is this value
abbrev pub IsDocument : (text : List ℕ) → Data → Type 0
IsDocument text d = (json : List ℕ) × Strips text json × IsValueOf json d

-- it is no value
abbrev pub HasNoDocument : (text : List ℕ) → Type 0
HasNoDocument text = (d : Data) → ¬ IsDocument text d
