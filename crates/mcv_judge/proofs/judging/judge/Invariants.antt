use Rattle.std.proofs.Common.{map, drop}
use Rattle.mcv_judge.specs.Faults.{HaveSameFaults}
use Rattle.mcv_judge.specs.PairsInMemory.{block_of, pairs_of}
use Rattle.mcv_cert.specs.Pair.{AreRising}
use Rattle.mcv_judge.proofs.judging.judge.Given as goal

abbrev pub invariant-loop-block : goal.invariant-loop-block
invariant-loop-block l = record {
  rising : AreRising (pairs_of l.rest);
  same : HaveSameFaults (pairs_of l.pairs) (map block_of l.blocks) (pairs_of l.rest) (map block_of (drop l.block-index l.blocks));
}
