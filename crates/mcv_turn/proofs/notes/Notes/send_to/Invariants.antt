use Rattle.mcv_turn.specs.Runs.{SendsMore}
use Rattle.mcv_turn.proofs.notes.Notes.send_to.Given as goal

abbrev pub invariant-loop-leg : goal.invariant-loop-leg
invariant-loop-leg g l = SendsMore l.fn.guard l.guard l.fn.flights.items l.flights.items
