use Rattle.std.proofs.Common.{drop}
use Rattle.mcv_blocks.specs.SetsInEras.{AreSetsFrom}
use Rattle.mcv_blocks.specs.Spots.{eras_near}
use Rattle.mcv_cert.specs.Pair.{AreRising}
use Rattle.mcv_judge.specs.PairsInMemory.{pairs_of}
use Rattle.mcv_check.proofs.SpotBySpot.{IsJudgedUpTo}
use Rattle.mcv_check.proofs.judging.judge_class.Given as goal

abbrev pub invariant-loop-era : goal.invariant-loop-era
invariant-loop-era l = record {
  rising : AreRising (pairs_of l.rest);
  sets : AreSetsFrom l.routes l.class l.sets.first l.sets.sets.items;
  so_far : IsJudgedUpTo l.routes (eras_near l.class 0 l.nears) (pairs_of l.pairs) (eras_near l.class l.era (drop l.era l.nears)) (pairs_of l.rest);
}
