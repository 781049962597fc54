use Rattle.std.proofs.Common.{◌∙◌, sym}
use Rattle.std.proofs.lemmas.Result.{err_from_is_err_and}
use Rattle.mcv_hub.proofs.CheckedReceipts.{all_apart, all_good, all_older, good_checked, older_checked, refused_at}
use Rattle.mcv_hub.proofs.receipts.count_older.Goals.{then-branch, else-branch}
use Rattle.mcv_hub.proofs.receipts.count_older.Goals as goal

pub returns-in_err-check_receipt-clause-err : goal.returns-in_err-check_receipt-clause-err
returns-in_err-check_receipt-clause-err c =
    let p = err_from_is_err_and c.from_residual.result c.from_residual.ensures.1 in
    rw (p.1, p.2)
    (refused_at c.args.hub c.args.chapter c.args.history.now c.args.receipts.now c.loop-index.index c.loop-index.older c.loop-index.seen.items _ c.in_err-check_receipt.field-0.0 c.loop-index.invariant c.loop-index-test.true
    c.in_err-check_receipt.ensures.stranger c.in_err-check_receipt.ensures.twice)

pub loop-index-preserved : goal.loop-index-preserved
loop-index-preserved c = elim c.if-branch.branch [
  | then-branch w ↦ rw (w.older-is, c.in_ok-check_receipt.ensures.skipped w.if-branch.true)
      (older_checked c.args.hub c.args.chapter c.args.history.now c.args.receipts.now c.loop-index.index c.loop-index.older c.loop-index.seen.items _ c.loop-index.invariant c.loop-index-test.true
      (sym c.in_ok-check_receipt.ensures.older ∙ w.if-branch.true))
  | else-branch w ↦ rw w.older-is
      (good_checked c.args.hub c.args.chapter c.args.history.now c.args.receipts.now c.loop-index.index c.loop-index.older c.loop-index.seen.items c.check_receipt.new.seen.items _ c.loop-index.invariant c.loop-index-test.true
      (sym c.in_ok-check_receipt.ensures.older ∙ w.if-branch.false) (c.in_ok-check_receipt.ensures.good w.if-branch.false) (c.in_ok-check_receipt.ensures.marks w.if-branch.false).0
      (c.in_ok-check_receipt.ensures.marks w.if-branch.false).1 c.check_receipt.ensures.len)
]

pub returns-clause-passed : goal.returns-clause-passed
returns-clause-passed c =
    record {
      good = all_good c.args.hub c.args.chapter c.args.history.now c.args.receipts.now c.loop-index.index c.loop-index.older c.loop-index.seen.items c.loop-index.invariant c.loop-index-test.false;
      apart = all_apart c.args.hub c.args.chapter c.args.history.now c.args.receipts.now c.loop-index.index c.loop-index.older c.loop-index.seen.items c.loop-index.invariant c.loop-index-test.false;
      older_is = all_older c.args.hub c.args.chapter c.args.history.now c.args.receipts.now c.loop-index.index c.loop-index.older c.loop-index.seen.items c.loop-index.invariant c.loop-index-test.false;
    }
