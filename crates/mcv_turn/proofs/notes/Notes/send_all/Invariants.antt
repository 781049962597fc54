use Rattle.mcv_turn.specs.Runs.{SendsMore}
use Rattle.mcv_turn.proofs.notes.Notes.send_all.Given as goal

abbrev pub invariant-loop-round : goal.invariant-loop-round
invariant-loop-round g l = SendsMore l.fn.guard l.guard l.fn.flights.items l.flights.items
