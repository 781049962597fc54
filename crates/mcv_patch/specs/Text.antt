-- The text of a patch (RFC 6902, sections 3 and 4).
use Rattle.std.specs.Prelude.{◌≡◌, ◌≤◌, ℕ, List, [], ◌∷◌, ◌++◌, Some, codes, map}
use Rattle.serde_json.specs.Data.{Data, array, depth, member, no_members, object, string}
use Rattle.serde_json.specs.Read.{max_depth, read}
use Rattle.serde_json.specs.View.{items_of}
use Rattle.mcv_patch.specs.Patch.{Change, add, key, replace}
use Rattle.mcv_patch.specs.Pointer.{pointer, pointer_step}

abbrev pub operation_data : (name pointer : List ℕ) → (value : Data) → Data
operation_data name p v = object (member (codes "op") (string name) (member (codes "path") (string p) (member (codes "value") v no_members)))

-- where the value goes
abbrev pub change_pointer : Change → List ℕ
change_pointer (replace path v) = pointer path
change_pointer (add path k v) = pointer path ++ pointer_step (key k)

abbrev pub change_data : Change → Data
change_data (replace path v) = operation_data (codes "replace") (change_pointer (replace path v)) v
change_data (add path k v) = operation_data (codes "add") (change_pointer (add path k v)) v

abbrev pub patch_data : List Change → Data
patch_data cs = array (items_of (map change_data cs))

-- the text is a line that reads as this value, where that nests no deeper than is read
abbrev pub IsLineOf : Data → (text : List ℕ) → Type 0
IsLineOf d text = (json : List ℕ) × (text ≡ json ++ 10 ∷ []) × (depth d ≤ max_depth → read json ≡ Some d)

abbrev pub IsPatchText : List Change → (text : List ℕ) → Type 0
IsPatchText cs text = IsLineOf (patch_data cs) text
