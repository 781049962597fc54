use Rattle.std.proofs.Common.{◌+◌, map, drop, subst}
use Rattle.std.proofs.lemmas.List.Elements.{All-head}
use Rattle.std.proofs.lemmas.Result.{err_from_is_err_and}
use Rattle.mcv_judge.specs.PairsInMemory.{block_of, pairs_of}
use Rattle.mcv_judge.specs.Faults.{AreInOrder, IsInOrder}
use Rattle.mcv_judge.proofs.Bridge.{next_block, next_first, next_same, still_in_order}
use Rattle.mcv_judge.proofs.judging.judge.Goals as goal

pub judge_block-requires : goal.judge_block-requires
judge_block-requires c =
    let blocks = c.args.blocks.now in
    let one = next_block blocks c.loop-block.block-index c.block-item.result c.loop-block-test.true c.block-item.is in
    let order = subst AreInOrder one (still_in_order blocks c.loop-block.block-index c.requires.blocks) in
    record {
      block = All-head IsInOrder (block_of c.block-item.result) (map block_of (drop (c.loop-block.block-index + 1) blocks)) order.each;
      pairs = c.loop-block.invariant.rising;
    }

pub loop-block-preserved : goal.loop-block-preserved
loop-block-preserved c =
    let blocks = c.args.blocks.now in
    let later = map block_of (drop (c.loop-block.block-index + 1) blocks) in
    let one = next_block blocks c.loop-block.block-index c.block-item.result c.loop-block-test.true c.block-item.is in
    let order = subst AreInOrder one (still_in_order blocks c.loop-block.block-index c.requires.blocks) in
    record {
      rising = c.in_ok-rest.ensures.rising;
      same = next_same (pairs_of c.args.pairs.now) (pairs_of c.loop-block.rest.now) _ (map block_of blocks) _ later (block_of c.block-item.result) c.loop-block.invariant.same one (c.in_ok-rest.ensures.left later order);
    }

pub returns-in_err-rest : goal.returns-in_err-rest
returns-in_err-rest c =
    let blocks = c.args.blocks.now in
    let later = map block_of (drop (c.loop-block.block-index + 1) blocks) in
    let one = next_block blocks c.loop-block.block-index c.block-item.result c.loop-block-test.true c.block-item.is in
    let order = subst AreInOrder one (still_in_order blocks c.loop-block.block-index c.requires.blocks) in
    let first = next_first (pairs_of c.args.pairs.now) (pairs_of c.loop-block.rest.now) (map block_of blocks) _ later (block_of c.block-item.result) _ c.loop-block.invariant.same one (c.in_err-rest.ensures.first later order) in
    let p = err_from_is_err_and c.from_residual.result c.from_residual.ensures.1 in
    rw (p.1, p.2) first
