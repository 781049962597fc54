use Rattle.std.proofs.Common.{[]}
use Rattle.mcv_turn.specs.Runs.{Runs}
use Rattle.mcv_turn.proofs.notes.Notes.unmark_all.Given as goal

abbrev pub invariant-loop-server : goal.invariant-loop-server
invariant-loop-server g l = Runs l.fn.guard [] [] l.guard
