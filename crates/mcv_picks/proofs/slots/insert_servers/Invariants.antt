use Rattle.std.proofs.Common.{◌≡◌}
use Rattle.std.specs.BTreeMap.{get}
use Rattle.std.specs.Option.{option_map, option_or}
use Rattle.mcv_judge.specs.PairsInMemory.{leg_of}
use Rattle.mcv_picks.specs.Picks.{borrowed}
use Rattle.mcv_picks.specs.Tables.{Slot, slot_cmp}
use Rattle.mcv_picks.proofs.FilledSlots.{given}
use Rattle.mcv_picks.proofs.slots.insert_servers.Given as goal

abbrev pub invariant-loop-index : goal.invariant-loop-index
invariant-loop-index l = (q : Slot) → option_map borrowed (get slot_cmp l.table q) ≡ option_or (option_map borrowed (get slot_cmp l.initial.table q)) (given (leg_of l.leg) l.index q)
