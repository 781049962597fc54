use Rattle.mcv_draw.specs.Marks.{marks_of}
use Rattle.mcv_picture.proofs.Marking.{nothing_marked}
use Rattle.mcv_picture.proofs.marks.unmarked.Goals as goal

pub returns : goal.returns
returns c =
    nothing_marked (marks_of c.unshown.result) c.new-deletes.result.items c.new-readable.result.items c.unshown.ensures c.new-deletes.ensures.items c.new-readable.ensures.items
