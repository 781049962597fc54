use Rattle.std.specs.Prelude.{All}
use Rattle.mcv_judge.specs.Answers.{AnswersEach}
use Rattle.mcv_judge.specs.PairsInMemory.{block_of, leg_of, pairs_of}
use Rattle.mcv_pairs.specs.AddedPairs.{Adds}
use Rattle.mcv_pairs.specs.Reasons.{IsPickedFor}
use Rattle.mcv_pairs.proofs.leaf.push_indexes.Given as goal

abbrev pub invariant-loop-index : goal.invariant-loop-index
invariant-loop-index l = record {
  answered : Adds (AnswersEach (block_of l.block) (leg_of l.leaf) l.index) (pairs_of l.fn.pairs.items) (pairs_of l.pairs.items);
  picked : Adds (All (IsPickedFor (block_of l.block) (leg_of l.leaf))) (pairs_of l.fn.pairs.items) (pairs_of l.pairs.items);
}
