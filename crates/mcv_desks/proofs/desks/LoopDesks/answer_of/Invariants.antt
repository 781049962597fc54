use Rattle.mcv_desks.specs.Open.{AreSameRequests}
use Rattle.mcv_desks.proofs.desks.LoopDesks.answer_of.Given as goal

abbrev pub invariant-loop-answer : goal.invariant-loop-answer
invariant-loop-answer g l = AreSameRequests l.fn.self l.self
