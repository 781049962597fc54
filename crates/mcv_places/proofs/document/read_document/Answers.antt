use Rattle.std.proofs.Common.{◌≡◌, ◌∙◌, List, subst, sym, ℕ}
use Rattle.mcv_comments.specs.Comments.{Strips}
use Rattle.mcv_comments.specs.declared.fault.CommentFault.TheVariants as faults
use Rattle.mcv_comments.proofs.OneReading.{strips_one}
use Rattle.mcv_places.proofs.Documents.{document_of_json}
use Rattle.mcv_places.proofs.document.read_document.Goals as goal

pub returns-in-Ok : goal.returns-in-Ok
returns-in-Ok c =
    let text = c.args.text.now in
    let json = c.in-Ok.json.items in
    let strips = c.in-Ok.ensures.stripped in
    let given = c.as_slice.result.now in
    document_of_json text given c.read_json.result (subst (λ (out : List ℕ). Strips text out) (sym c.as_slice.ensures.value) strips)
    (λ other is. strips_one text other json is strips ∙ sym c.as_slice.ensures.value) c.read_json.ensures

pub returns-in-Err-Open : goal.returns-in-Err-Open
returns-in-Err-Open c = λ d document.
    let memory : c.in-Err-Open.field-0 ≡ faults.Memory = c.in-Err-Open.ensures.only document.0 document.1 in
    let never : faults.Open ≡ faults.Memory = sym c.in-Err-Open.field-0-is ∙ memory in
    cc
