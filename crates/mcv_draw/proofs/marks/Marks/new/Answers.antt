use Rattle.mcv_draw.proofs.SameMarks.{same_marks}
use Rattle.mcv_draw.proofs.marks.Marks.new.Goals as goal

pub returns : goal.returns
returns c = same_marks c.args.deletes.items c.new.result.positions.items c.args.readable.items c.new-2.result.positions.items c.args.shown.items c.new-3.result.positions.items c.args.lost
    c.new.ensures c.new-2.ensures c.new-3.ensures
