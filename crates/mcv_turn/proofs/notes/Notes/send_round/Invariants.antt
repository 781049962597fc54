use Rattle.mcv_turn.specs.Runs.{SendsMore}
use Rattle.mcv_turn.proofs.notes.Notes.send_round.Given as goal

abbrev pub invariant-loop-number : goal.invariant-loop-number
invariant-loop-number g l = SendsMore l.fn.guard l.guard l.fn.flights.items l.flights.items
