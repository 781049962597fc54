use Rattle.mcv_faults.proofs.Steps.{all_said}
use Rattle.mcv_faults.proofs.pointer.push_steps.Goals as goal

pub returns : goal.returns
returns c = all_said c.loop-rest.rest.now c.loop-rest.pointer.items _ c.in_default.len_below c.loop-rest.invariant
