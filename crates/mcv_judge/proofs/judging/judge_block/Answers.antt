use Rattle.mcv_judge.specs.PairsInMemory.{block_of, pairs_of}
use Rattle.mcv_judge.proofs.Bridge as bridge
use Rattle.mcv_judge.proofs.judging.judge_block.Goals as goal

pub returns : goal.returns
returns c = record {
  rising = bridge.left_rise (block_of c.args.block.now) (pairs_of c.args.pairs.now) c.requires.block c.requires.pairs _ c.walk_block.ensures;
  left = λ later order. bridge.left (block_of c.args.block.now) later (pairs_of c.args.pairs.now) order c.requires.pairs _ c.walk_block.ensures;
  first = λ later order. bridge.first (block_of c.args.block.now) later (pairs_of c.args.pairs.now) order c.requires.pairs _ c.walk_block.ensures;
}
