use Rattle.mcv_draw.specs.Marks.{marks_of}
use Rattle.mcv_witness.specs.Finding.{finding_of}
use Rattle.mcv_picture.proofs.Marking.{legs_shown}
use Rattle.mcv_picture.proofs.marks.found_marks.Goals as goal

pub returns : goal.returns
returns c =
    let reached = c.in_ok-reached.reached in
    legs_shown c.args.routes.now (finding_of c.args.finding.now) (marks_of c.new.result) reached.deletes.items reached.readable.items c.in_ok-shown.shown.items c.in_ok-leaf.leaf
    c.in_ok-reached.ensures c.new.ensures c.in_ok-shown.ensures c.in_ok-leaf.ensures
