-- The value at fault in a text: its own text, and where it stands (own). Lines and columns are from 1; a column is a byte.
use Rattle.std.specs.Prelude.{◌≡◌, ◌≤◌, ℕ, ◌+◌, ◌==◌, length, List, [], ◌∷◌, Option, None, Some, ⊤, count_by, drop, if◌then◌else◌, option_and_then, take}
use Rattle.std.specs.Str.Lossy.{utf8_lossy}
use Rattle.serde_json.specs.Data.{Data}
use Rattle.serde_json.specs.Find.{as_str, pointer}
use Rattle.mcv_places.specs.Document.{HasNoDocument, IsDocument}
use Rattle.mcv_faults.specs.FaultPointer.{fault_pointer}

abbrev pub line_at : (text : List ℕ) → (offset : ℕ) → ℕ
line_at text offset = 1 + count_by (λ b. b == 10) (take offset text)

-- the column behind these bytes, where the one before them is `column`
abbrev pub column_behind : List ℕ → (column : ℕ) → ℕ
column_behind [] column = column
column_behind (b ∷ bs) column = column_behind bs (if b == 10 then 1 else column + 1)

abbrev pub column_at : (text : List ℕ) → (offset : ℕ) → ℕ
column_at text offset = column_behind (take offset text) 1

-- the value to which the pointer of the fault's path leads
abbrev pub at_fault : (path : List ℕ) → Data → Option Data
at_fault path d = pointer (utf8_lossy (fault_pointer path)) d

-- its text, where it is one
abbrev pub text_at_fault : (path : List ℕ) → Data → Option (List ℕ)
text_at_fault path d = option_and_then as_str (at_fault path d)

-- `said` is the text at fault, where the value there is one
pub record IsSaidAt (text path : List ℕ) (said : Option (List ℕ)) : Type 0 where
  pub of_value : (d : Data) → IsDocument text d → said ≡ text_at_fault path d
  pub of_none : HasNoDocument text → said ≡ None

-- from the place on the text has JSON, and where the value is a text, it is that text
abbrev pub StandsAt : (text : List ℕ) → (place : ℕ × ℕ) → Data → Type 0
StandsAt text place v = (offset : ℕ) × (n : ℕ) × (offset ≤ length text) × (place.0 ≡ line_at text offset) × (place.1 ≡ column_at text offset)
    × (e : Data) × IsDocument (take n (drop offset text)) e × (as_str e ≡ as_str v)

-- the value that was found stands at the place
abbrev pub StandsIn : (text : List ℕ) → (found : Option Data) → (place : ℕ × ℕ) → Type 0
StandsIn text found place = (v : Data) × (found ≡ Some v) × StandsAt text place v

-- where a place is given, the value at fault stands there
abbrev pub IsPlaceAt : (text path : List ℕ) → Option (ℕ × ℕ) → Type 0
IsPlaceAt text path None = ⊤
IsPlaceAt text path (Some place) = (d : Data) × IsDocument text d × StandsIn text (at_fault path d) place
