use Rattle.std.proofs.Common.{◌<◌, ℕ, List}
use Rattle.mcv_judge.specs.PairsInMemory.{leg_of}
use Rattle.mcv_gaps.specs.Gaps.{IsAnsweredBy, IsSizedLeaf}
use Rattle.mcv_gaps.proofs.gaps.is_missed_at_an_index.Given as goal

-- some symbol answers at each index so far
abbrev pub invariant-loop-index : goal.invariant-loop-index
invariant-loop-index l = (sizes : List ℕ) → IsSizedLeaf sizes l.picks (leg_of l.leaf) → (k : ℕ) → k < l.index → IsAnsweredBy sizes l.picks (leg_of l.leaf) k
