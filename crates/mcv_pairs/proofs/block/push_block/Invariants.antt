use Rattle.std.proofs.Common.{take}
use Rattle.std.specs.Prelude.{All}
use Rattle.mcv_judge.specs.Answers.{AnswersLeaves}
use Rattle.mcv_judge.specs.PairsInMemory.{block_of, legs_of, pairs_of}
use Rattle.mcv_pairs.specs.AddedPairs.{Adds}
use Rattle.mcv_pairs.specs.Reasons.{IsPickedIn}
use Rattle.mcv_pairs.proofs.block.push_block.Given as goal

abbrev pub invariant-loop-number : goal.invariant-loop-number
invariant-loop-number l = record {
  answered : Adds (AnswersLeaves (block_of l.block) (legs_of (take l.number l.leaves))) (pairs_of l.fn.pairs.items) (pairs_of l.pairs.items);
  picked : Adds (All (IsPickedIn (block_of l.block))) (pairs_of l.fn.pairs.items) (pairs_of l.pairs.items);
}
