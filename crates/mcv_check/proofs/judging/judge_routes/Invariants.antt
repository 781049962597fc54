use Rattle.std.proofs.Common.{drop}
use Rattle.mcv_cert.specs.Pair.{AreRising}
use Rattle.mcv_judge.specs.PairsInMemory.{pairs_of}
use Rattle.mcv_check.proofs.Classes.{IsJudgedBefore}
use Rattle.mcv_check.proofs.judging.judge_routes.Given as goal

abbrev pub invariant-loop-class : goal.invariant-loop-class
invariant-loop-class l = record {
  rising : AreRising (pairs_of l.rest);
  so_far : IsJudgedBefore l.routes l.class-items l.near (pairs_of l.pairs) (drop l.class-index l.class-items) (pairs_of l.rest);
}
