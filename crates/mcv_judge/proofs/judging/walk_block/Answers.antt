use Rattle.std.proofs.Common.{sym, ◌∙◌}
use Rattle.std.proofs.lemmas.Result.{err_from_is_err_and}
use Rattle.mcv_judge.specs.PairsInMemory.{block_of, pairs_of}
use Rattle.mcv_judge.proofs.Steps.{leaf_passed, leaf_wrong, some_server}
use Rattle.mcv_judge.proofs.judging.walk_block.Goals as goal

pub returns-in_err-pairs : goal.returns-in_err-pairs
returns-in_err-pairs c =
    let block = block_of c.args.block.now in
    let leaves = c.args.block.now.readable.now in
    let some = some_server leaves c.loop-leaf.leaf-index c.leaf-item.result c.loop-leaf-test.true c.leaf-item.is c.requires.indexed in
    let wrong = leaf_wrong block leaves c.loop-leaf.leaf-index c.leaf-item.result c.loop-leaf-test.true c.leaf-item.is some (pairs_of c.loop-leaf.pairs.now) _ c.in_err-pairs.ensures in
    let p = err_from_is_err_and c.from_residual.result c.from_residual.ensures.1 in
    rw (p.1, p.2) (sym wrong ∙ c.loop-leaf.invariant)

pub loop-leaf-preserved : goal.loop-leaf-preserved
loop-leaf-preserved c =
    let block = block_of c.args.block.now in
    let leaves = c.args.block.now.readable.now in
    let some = some_server leaves c.loop-leaf.leaf-index c.leaf-item.result c.loop-leaf-test.true c.leaf-item.is c.requires.indexed in
    sym (leaf_passed block leaves c.loop-leaf.leaf-index c.leaf-item.result c.loop-leaf-test.true c.leaf-item.is some (pairs_of c.loop-leaf.pairs.now) c.in_ok-pairs.pairs c.in_ok-pairs.ensures) ∙ c.loop-leaf.invariant
