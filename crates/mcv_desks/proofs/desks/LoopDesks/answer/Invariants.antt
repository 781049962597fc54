use Rattle.mcv_desks.specs.Open.{AreSameRequests}
use Rattle.mcv_desks.proofs.desks.LoopDesks.answer.Given as goal

abbrev pub invariant-loop-hub : goal.invariant-loop-hub
invariant-loop-hub g l = AreSameRequests l.fn.self l.self
