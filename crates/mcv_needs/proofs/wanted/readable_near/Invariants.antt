use Rattle.std.proofs.Common.{◌↔◌}
use Rattle.std.specs.List.{Contains}
use Rattle.mcv_judge.specs.PairsInMemory.{legs_of}
use Rattle.mcv_judge.specs.Reason.{LegValue}
use Rattle.mcv_needs.specs.Wanted.{IsReadNear}
use Rattle.mcv_needs.proofs.wanted.readable_near.Given as goal

-- those of the eras so far
abbrev pub invariant-loop-era : goal.invariant-loop-era
invariant-loop-era l = (leaf : LegValue) → Contains (legs_of l.all.items) leaf ↔ IsReadNear l.sets l.fn.near.first l.era leaf
