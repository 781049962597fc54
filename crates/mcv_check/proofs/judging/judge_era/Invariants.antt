use Rattle.std.proofs.Common.{◌-◌}
use Rattle.mcv_blocks.specs.Spots.{gets_from}
use Rattle.mcv_cert.specs.Pair.{AreRising}
use Rattle.mcv_judge.specs.PairsInMemory.{pairs_of}
use Rattle.mcv_check.proofs.SpotBySpot.{IsJudgedUpTo}
use Rattle.mcv_check.proofs.judging.judge_era.Given as goal

abbrev pub invariant-loop-get_era : goal.invariant-loop-get_era
invariant-loop-get_era l = record {
  rising : AreRising (pairs_of l.rest);
  so_far : IsJudgedUpTo l.routes (gets_from l.at.class.now l.at.era l.at.near.first (l.at.near.end - l.at.near.first)) (pairs_of l.pairs) (gets_from l.at.class.now l.at.era l.get_era (l.at.near.end - l.get_era)) (pairs_of l.rest);
}
