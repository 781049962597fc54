use Rattle.std.proofs.Common.{[]}
use Rattle.mcv_turn.specs.Runs.{Runs}
use Rattle.mcv_turn.proofs.notes.Notes.hold.Given as goal

abbrev pub invariant-loop-leg : goal.invariant-loop-leg
invariant-loop-leg g l = Runs l.fn.guard [] [] l.guard
