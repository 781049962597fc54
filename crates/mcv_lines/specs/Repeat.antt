-- Which legs that were written, wholly or in part, may be sent once more (own).
use Rattle.std.specs.Prelude.{Bool, false, not, ◌||◌}
use Rattle.mcv_base.specs.declared.operation.Op.{Op}
use Rattle.mcv_base.specs.Operation.{is_adjusting, is_storing}
use Rattle.mcv_lines.specs.declared.loss.Loss.{Loss}
use Rattle.mcv_lines.specs.declared.loss.Loss.TheVariants.{Idle, Broken, Late}

-- nothing of its reply had come over a connection that was kept, and its operation neither sends a value to be stored nor changes a
-- number (protocol.txt, "Storage commands", "Increment/Decrement"): performed twice it leaves what it leaves performed once. What is late
-- is never sent again: its server may perform it at any later time
abbrev pub may_repeat : Op → Loss → Bool
may_repeat op Idle = not (is_storing op || is_adjusting op)
may_repeat op Broken = false
may_repeat op Late = false
