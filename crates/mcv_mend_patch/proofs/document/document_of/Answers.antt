use Rattle.serde_json.specs.View.{view}
use Rattle.mcv_mend_patch.proofs.Documents.{document_shallow, no_document}
use Rattle.mcv_mend_patch.proofs.document.document_of.Goals as goal

pub unreachable-requires : goal.unreachable-requires
unreachable-requires c =
    let none = rw c.in_default.is at c.in_ok-value.ensures in
    no_document c.args.text.now c.requires none

pub returns-clause-shallow : goal.returns-clause-shallow
returns-clause-shallow c =
    let document = rw c.in-Some.is at c.in_ok-value.ensures in
    document_shallow c.args.text.now (view c.in-Some.value) document
