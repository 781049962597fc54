use Rattle.std.proofs.Common.{map, take}
use Rattle.mcv_picks.specs.Picks.{borrowed}
use Rattle.mcv_picks.specs.Tables.{IsBySlot}
use Rattle.mcv_picks.proofs.slots.slots.Given as goal

abbrev pub invariant-loop-leg : goal.invariant-loop-leg
invariant-loop-leg l = IsBySlot l.table (map borrowed (take l.leg-index l.legs))
