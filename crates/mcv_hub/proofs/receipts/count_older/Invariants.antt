use Rattle.mcv_hub.proofs.CheckedReceipts.{Checked}
use Rattle.mcv_hub.proofs.receipts.count_older.Given as goal

abbrev pub invariant-loop-index : goal.invariant-loop-index
invariant-loop-index l = Checked l.hub l.chapter l.history l.receipts l.index l.older l.seen.items
