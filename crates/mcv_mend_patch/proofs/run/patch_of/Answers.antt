use Rattle.std.proofs.Common.{List, ℕ, refl, subst, sym}
use Rattle.std.proofs.lemmas.Result.{IfOk-weaker}
use Rattle.mcv_mend.specs.Mending.{IsMendingOn}
use Rattle.mcv_mend.specs.declared.fault.Mending.{Mending}
use Rattle.mcv_mend_patch.specs.Patching.{HasDocument, IsPatchBetween}
use Rattle.mcv_mend_patch.proofs.Documents.{input_document, mended_document}
use Rattle.mcv_mend_patch.proofs.Patches.{of_covered, of_lost}
use Rattle.mcv_mend_patch.proofs.run.patch_of.Goals as goal

pub returns-in-Unchanged : goal.returns-in-Unchanged
returns-in-Unchanged c =
    let output = c.args.output.now in
    IfOk-weaker c.patch_text.result _ _
    (λ text written. of_covered c.args.input.now output.text.items output.mending text.items c.in-Unchanged.is c.requires written)
    (c.patch_text.ensures.none refl)

pub patch_between-requires-clause-reads : goal.patch_between-requires-clause-reads
patch_between-requires-clause-reads c =
    let output = c.args.output.now in
    input_document c.args.input.now output.text.items (subst (λ (m : Mending). IsMendingOn c.args.input.now m output.text.items) c.in-Mended.is c.requires)

pub patch_between-requires-clause-mends : goal.patch_between-requires-clause-mends
patch_between-requires-clause-mends c =
    let output = c.args.output.now in
    subst HasDocument (sym c.as_slice.ensures.value)
    (mended_document c.args.input.now output.text.items (subst (λ (m : Mending). IsMendingOn c.args.input.now m output.text.items) c.in-Mended.is c.requires))

pub returns-in-Mended : goal.returns-in-Mended
returns-in-Mended c =
    let output = c.args.output.now in
    IfOk-weaker c.patch_between.result _ _
    (λ text patch. of_lost c.args.input.now output.text.items output.mending text.items c.in-Mended.is c.requires
    (subst (λ (xs : List ℕ). IsPatchBetween c.args.input.now xs text.items) c.as_slice.ensures.value patch))
    c.patch_between.ensures
