use Rattle.std.proofs.Common.{refl}
use Rattle.mcv_turn.proofs.Told.{marked_on, none_marked}
use Rattle.mcv_turn.proofs.servers.Servers.note_marks.Goals as goal

pub loop-number-init : goal.loop-number-init
loop-number-init g c = none_marked c.args.guard.now c.args.marks.now.items c.args.marks.now.items refl

pub loop-number-preserved : goal.loop-number-preserved
loop-number-preserved g c = marked_on c.args.guard.now c.args.marks.now.items c.loop-number.marks.items c.note_mark.new.marks.items c.loop-number.invariant c.note_mark.ensures
