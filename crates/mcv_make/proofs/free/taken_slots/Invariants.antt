use Rattle.std.proofs.Common.{◌≡◌, map, take}
use Rattle.std.specs.BTreeSet.{contains}
use Rattle.mcv_make.specs.FreeIndexes.{Slot, is_taken, slot_cmp}
use Rattle.mcv_make.proofs.free.taken_slots.Given as goal

abbrev pub invariant-loop-leg : goal.invariant-loop-leg
invariant-loop-leg l = (q : Slot) → contains slot_cmp l.taken q ≡ is_taken (map (λ d. d.now) (take l.leg-index l.legs)) l.server.0 q.0 q.1
