use Rattle.std.proofs.Common.{◌≡◌, ◌||◌, []}
use Rattle.std.specs.BTreeSet.{contains}
use Rattle.mcv_judge.specs.PairsInMemory.{numbers}
use Rattle.mcv_make.specs.FreeIndexes.{Slot, slot_cmp}
use Rattle.mcv_make.proofs.TakenIndexes.{among}
use Rattle.mcv_make.proofs.free.insert_slots.Given as goal

abbrev pub invariant-loop-index : goal.invariant-loop-index
invariant-loop-index l = (q : Slot) → contains slot_cmp l.taken q ≡ (contains slot_cmp l.initial.taken q || among (record { position = []; symbol = l.symbol; servers = numbers l.servers }) l.server.0 l.index q)
