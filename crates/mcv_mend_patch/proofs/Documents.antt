-- The values of texts that name routes.
use Rattle.std.proofs.Common.{◌≤◌, List, ℕ}
use Rattle.serde_json.proofs.Nesting.{depth-read}
use Rattle.serde_json.specs.Data.{Data, depth}
use Rattle.serde_json.specs.Read.{max_depth}
use Rattle.mcv_input.specs.Fault.{AreNamedBy}
use Rattle.mcv_mend.specs.Mending.{IsMendingOn}
use Rattle.mcv_mend.specs.declared.fault.Mending.TheVariants.{Mended}
use Rattle.mcv_mend_patch.specs.Patching.{HasDocument}
use Rattle.mcv_places.specs.Document.{HasNoDocument, IsDocument}
use Rattle.mcv_route.specs.Routes.{RoutesValue}

pub no_document : (text : List ℕ) → HasDocument text → HasNoDocument text → ⊥
no_document text has none = none has.0 has.1

pub document_shallow : (text : List ℕ) (d : Data) → IsDocument text d → depth d ≤ max_depth
document_shallow text d document = depth-read document.0 d document.2.1

named_document : (text : List ℕ) (r : RoutesValue) → AreNamedBy text r → HasDocument text
named_document text r named =
    let names = named.1 in
    let json = names.3 in
    (json.0, (names.1, names.2, (json.1, json.2)))

pub input_document : (input mended : List ℕ) → IsMendingOn input Mended mended → HasDocument input
input_document input mended on = named_document input on.0 on.1

pub mended_document : (input mended : List ℕ) → IsMendingOn input Mended mended → HasDocument mended
mended_document input mended on = named_document mended on.2.mended.routes on.2.mended.named
