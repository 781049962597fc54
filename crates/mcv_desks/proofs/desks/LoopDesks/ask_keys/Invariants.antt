use Rattle.mcv_desks.specs.Open.{AreInPlace}
use Rattle.mcv_desks.proofs.desks.LoopDesks.ask_keys.Given as goal

abbrev pub invariant-loop-key : goal.invariant-loop-key
invariant-loop-key g l = AreInPlace l.fn.self l.self
