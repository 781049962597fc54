use Rattle.std.proofs.Common.{take}
use Rattle.std.specs.List.{All}
use Rattle.mcv_needs.specs.InMemory.{need_value}
use Rattle.mcv_mended.specs.Mend.{IsMendedBy}
use Rattle.mcv_mended.proofs.mended.is_mended.Given as goal

-- the needs so far are met
abbrev pub invariant-loop-need : goal.invariant-loop-need
invariant-loop-need l = All (λ need. IsMendedBy l.old l.new (need_value need)) (take l.need-index l.needs)
