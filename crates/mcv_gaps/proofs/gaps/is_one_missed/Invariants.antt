use Rattle.std.proofs.Common.{ℕ, List, take}
use Rattle.std.specs.List.{Contains}
use Rattle.mcv_judge.specs.PairsInMemory.{legs_of}
use Rattle.mcv_judge.specs.Reason.{LegValue}
use Rattle.mcv_gaps.specs.Gaps.{AreSizedBy, IsMissed}
use Rattle.mcv_gaps.proofs.gaps.is_one_missed.Given as goal

-- none of the leaves so far is missed
abbrev pub invariant-loop-leaf : goal.invariant-loop-leaf
invariant-loop-leaf l = (sizes : List ℕ) → AreSizedBy sizes (record { readable = legs_of l.leaves; acknowledged = legs_of l.fn.legs })
    → (d : LegValue) → Contains (legs_of (take l.leaf-index l.leaves)) d → IsMissed sizes (legs_of l.fn.legs) d → ⊥
