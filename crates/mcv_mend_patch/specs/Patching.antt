-- What is written of a configuration as a patch (own).
use Rattle.std.specs.Prelude.{◌≡◌, ℕ, List, [], Some}
use Rattle.serde_json.specs.Data.{Data}
use Rattle.mcv_mend.specs.Mending.{IsMendingOn}
use Rattle.mcv_mend.specs.declared.fault.Mending.{Mending}
use Rattle.mcv_mend.specs.declared.fault.Mending.TheVariants.{Mended, Unchanged}
use Rattle.mcv_places.specs.Document.{IsDocument}
use Rattle.mcv_patch.specs.Patch.{Change, patched_by}
use Rattle.mcv_patch.specs.Text.{IsPatchText}

-- the text is a JSON value with comments
abbrev pub HasDocument : (text : List ℕ) → Type 0
HasDocument text = (d : Data) × IsDocument text d

-- the text is a patch that makes one value of another
pub record IsPatchFrom (old new : Data) (text : List ℕ) : Type 0 where
  pub changes : List Change
  pub written : IsPatchText changes text
  pub makes : patched_by changes old ≡ Some new

-- the text is a patch that makes the value of one text of that of another
pub record IsPatchBetween (input mended text : List ℕ) : Type 0 where
  pub old : Data
  pub new : Data
  pub reads : IsDocument input old
  pub mends : IsDocument mended new
  pub patches : IsPatchFrom old new text

-- the empty patch of a covered input; else a patch that makes the mended input of the input
abbrev pub IsPatchOn : (input : List ℕ) → Mending → (text : List ℕ) → Type 0
IsPatchOn input Unchanged text = IsMendingOn input Unchanged input × IsPatchText [] text
IsPatchOn input Mended text = (mended : List ℕ) × IsMendingOn input Mended mended × IsPatchBetween input mended text
