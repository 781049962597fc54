use Rattle.std.proofs.Common.{◌≡◌}
use Rattle.mcv_judge.specs.Faults.{require}
use Rattle.mcv_judge.specs.PairsInMemory.{block_of, leg_of, pairs_of}
use Rattle.mcv_judge.specs.Walk.{entries_left, walk}
use Rattle.mcv_judge.proofs.judging.walk_leaf.Given as goal

abbrev pub invariant-loop-index : goal.invariant-loop-index
invariant-loop-index l = walk (pairs_of l.pairs) (entries_left l.index (require (block_of l.block) (leg_of l.leaf))) ≡ walk (pairs_of l.fn.pairs) (entries_left 0 (require (block_of l.block) (leg_of l.leaf)))
