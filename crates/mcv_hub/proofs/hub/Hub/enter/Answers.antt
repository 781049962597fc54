use Rattle.std.proofs.Common.{◌∙◌}
use Rattle.mcv_hub.proofs.DueChapters.{gate_is_due, same_is_due}
use Rattle.mcv_hub.proofs.hub.Hub.enter.Goals as goal

pub returns-then-not-is_closed : goal.returns-then-not-is_closed
returns-then-not-is_closed g c = gate_is_due c.loop-attempt.guard c.gate-gate.new.self c.gate-gate.result c.gate-gate.ensures

pub returns-then-is_over : goal.returns-then-is_over
returns-then-is_over g c =
    same_is_due c.gate-gate.new.self c.note_vain_wait.new.self c.note_vain_wait.ensures ∙ gate_is_due c.loop-attempt.guard c.gate-gate.new.self c.gate-gate.result c.gate-gate.ensures
