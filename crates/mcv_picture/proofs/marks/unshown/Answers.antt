use Rattle.mcv_draw.specs.Marks.{marks_of}
use Rattle.mcv_picture.proofs.Marking.{nothing_shown}
use Rattle.mcv_picture.proofs.marks.unshown.Goals as goal

pub returns : goal.returns
returns c = nothing_shown (marks_of c.new.result) c.args.deletes.items c.args.readable.items c.new-shown.result.items c.new.ensures c.new-shown.ensures.items
