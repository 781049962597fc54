use Rattle.mcv_turn.specs.Shown.{TellsMarks}
use Rattle.mcv_turn.proofs.servers.Servers.note_marks.Given as goal

abbrev pub invariant-loop-number : goal.invariant-loop-number
invariant-loop-number g l = TellsMarks l.guard l.fn.marks.items l.marks.items
