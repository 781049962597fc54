use Rattle.std.proofs.Common.{refl, rules}
use Rattle.mcv_turn.proofs.desk.LoopDesk.open_gate.Goals as goal

pub returns-in-Open-clause-gate : goal.returns-in-Open-clause-gate
returns-in-Open-clause-gate g c = (c.gate.result, c.gate.ensures, rw c.in-Open.is refl, rw c.in-Open.is refl)

pub returns-in-Turned-clause-gate : goal.returns-in-Turned-clause-gate
returns-in-Turned-clause-gate g c = (c.gate.result, c.gate.ensures, rw c.in-Turned.is refl, rw c.in-Turned.is (search rules))

pub returns-in-Closed-clause-gate : goal.returns-in-Closed-clause-gate
returns-in-Closed-clause-gate g c = (c.gate.result, c.gate.ensures, rw c.in-Closed.is refl, rw c.in-Closed.is refl)
