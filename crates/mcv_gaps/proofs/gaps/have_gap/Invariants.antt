use Rattle.std.proofs.Common.{ℕ, List, map, take}
use Rattle.std.specs.List.{Contains}
use Rattle.mcv_judge.specs.PairsInMemory.{legs_of}
use Rattle.mcv_picks.specs.Reasons.{AreSized}
use Rattle.mcv_gaps.specs.Gaps.{AreAllSizedBy, HasGap, WantedValue, wanted_of, wanteds_of}
use Rattle.mcv_gaps.proofs.gaps.have_gap.Given as goal

-- those so far have no gap
abbrev pub invariant-loop-one : goal.invariant-loop-one
invariant-loop-one l = (sizes : List ℕ) → AreAllSizedBy sizes (wanteds_of l.wanted) → AreSized sizes (legs_of l.added)
    → (w : WantedValue) → Contains (map wanted_of (take l.one-index l.wanted)) w → HasGap sizes w (legs_of l.added) → ⊥
