use Rattle.std.proofs.Common.{◌≡◌, drop, map}
use Rattle.mcv_judge.specs.Faults.{require, required_by}
use Rattle.mcv_judge.specs.PairsInMemory.{block_of, legs_of, pairs_of}
use Rattle.mcv_judge.specs.Walk.{entries, walk}
use Rattle.mcv_judge.proofs.judging.walk_block.Given as goal

abbrev pub invariant-loop-leaf : goal.invariant-loop-leaf
invariant-loop-leaf l = walk (pairs_of l.pairs) (entries (map (require (block_of l.block)) (legs_of (drop l.leaf-index l.leaves)))) ≡ walk (pairs_of l.fn.pairs) (entries (required_by (block_of l.block)))
