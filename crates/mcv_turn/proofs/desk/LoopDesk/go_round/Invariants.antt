use Rattle.std.proofs.Common.{◌≡◌}
use Rattle.mcv_turn.specs.OpenRequests.{AreSameOpen}
use Rattle.mcv_turn.specs.Runs.{SendsMore}
use Rattle.mcv_turn.proofs.desk.LoopDesk.go_round.Given as goal

abbrev pub invariant-loop-round : goal.invariant-loop-round
invariant-loop-round g l = record { sends : SendsMore l.fn.guard l.guard l.fn.gives.flights.items l.gives.flights.items; same : AreSameOpen l.fn.self.questions l.self.questions; others : (l.gives.performed ≡ l.fn.gives.performed) × (l.gives.marks ≡ l.fn.gives.marks) }
