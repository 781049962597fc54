use Rattle.std.proofs.Common.{refl, ap}
use Rattle.std.proofs.lemmas.Result.{err_from_is_err_and}
use Rattle.mcv_judge.specs.PairsInMemory.{legs_of, spot_of}
use Rattle.mcv_judge.specs.Reason.{BlockValue}
use Rattle.mcv_blocks.specs.Spots.{IsBlockWith}
use Rattle.mcv_blocks.proofs.BlockOfSets.{block_with}
use Rattle.mcv_check.proofs.block.judge_sets.Goals as goal

pub judge_block-requires : goal.judge_block-requires
judge_block-requires c =
    let at = spot_of c.args.spot.now in
    let block : BlockValue = record { spot = at; readable = legs_of c.as_slice.result.now; acknowledged = legs_of c.as_slice-2.result.now; can_be_acknowledged = c.can_be_acknowledged.result } in
    let is : IsBlockWith c.args.deletes.now c.args.gets.now at block = block_with c.args.deletes.now c.args.gets.now at block (legs_of c.in_ok-readable.readable.items) (legs_of c.in_ok-acknowledged.acknowledged.items) refl
    (ap legs_of c.as_slice.ensures.value) (ap legs_of c.as_slice-2.ensures.value) c.in_ok-readable.ensures c.in_ok-acknowledged.ensures c.can_be_acknowledged.ensures in
    record { block = c.requires.order block is; pairs = c.requires.pairs }

pub returns-in_err-judge_block-clause-fault : goal.returns-in_err-judge_block-clause-fault
returns-in_err-judge_block-clause-fault c =
    let at = spot_of c.args.spot.now in
    let block : BlockValue = record { spot = at; readable = legs_of c.as_slice.result.now; acknowledged = legs_of c.as_slice-2.result.now; can_be_acknowledged = c.can_be_acknowledged.result } in
    let is : IsBlockWith c.args.deletes.now c.args.gets.now at block = block_with c.args.deletes.now c.args.gets.now at block (legs_of c.in_ok-readable.readable.items) (legs_of c.in_ok-acknowledged.acknowledged.items) refl
    (ap legs_of c.as_slice.ensures.value) (ap legs_of c.as_slice-2.ensures.value) c.in_ok-readable.ensures c.in_ok-acknowledged.ensures c.can_be_acknowledged.ensures in
    let p = err_from_is_err_and c.from_residual-in_err-judge_block.result c.from_residual-in_err-judge_block.ensures.1 in
    rw (p.1, p.2) (record { block = block; is = is; first = c.in_err-judge_block.ensures.first })

pub returns-clause-left : goal.returns-clause-left
returns-clause-left c =
    let at = spot_of c.args.spot.now in
    let block : BlockValue = record { spot = at; readable = legs_of c.as_slice.result.now; acknowledged = legs_of c.as_slice-2.result.now; can_be_acknowledged = c.can_be_acknowledged.result } in
    let is : IsBlockWith c.args.deletes.now c.args.gets.now at block = block_with c.args.deletes.now c.args.gets.now at block (legs_of c.in_ok-readable.readable.items) (legs_of c.in_ok-acknowledged.acknowledged.items) refl
    (ap legs_of c.as_slice.ensures.value) (ap legs_of c.as_slice-2.ensures.value) c.in_ok-readable.ensures c.in_ok-acknowledged.ensures c.can_be_acknowledged.ensures in
    record { block = block; is = is; same = c.in_ok-judge_block.ensures.left }
