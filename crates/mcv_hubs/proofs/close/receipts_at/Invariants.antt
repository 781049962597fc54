use Rattle.std.proofs.Common.{◌≡◌, take}
use Rattle.mcv_hubs.specs.Reports.{receipts_at}
use Rattle.mcv_hubs.proofs.close.receipts_at.Given as goal

-- those so far
abbrev pub invariant-loop-receipt : goal.invariant-loop-receipt
invariant-loop-receipt l = l.found.items ≡ receipts_at l.hub (take l.receipt-index l.receipts)
