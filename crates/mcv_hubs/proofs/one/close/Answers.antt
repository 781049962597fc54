use Rattle.mcv_hubs.specs.Counts.{tally}
use Rattle.mcv_hubs.proofs.Closing.{answer_of}
use Rattle.mcv_hubs.proofs.Counting.{same_tally}
use Rattle.mcv_hubs.proofs.one.close.Goals as goal

pub returns-clause-answer : goal.returns-clause-answer
returns-clause-answer g c =
    let seat = c.args.seat.now in
    answer_of g.B.HubLedger.number g.B.Ledger.parts g.T.Ledger.parts c.args.receipts.now (tally seat.begun.amount seat.taken.amount seat.begun.parts seat.taken.parts) c.lock-guard.result c.close.result c.is_numbered.ensures c.deletes_are_kept.ensures c.close.ensures.begun c.close.ensures.taken
    c.close.ensures.all_begun c.close.ensures.all_taken c.close.ensures.passed c.close.ensures.err

pub returns-clause-same : goal.returns-clause-same
returns-clause-same g c =
    let s = c.args.seat.now in
    let n = c.close.new.seat in
    same_tally s.begun.amount n.begun.amount s.taken.amount n.taken.amount s.begun.parts n.begun.parts s.taken.parts n.taken.parts c.close.ensures.shares.0 c.close.ensures.shares.1 c.close.ensures.shares.2 c.close.ensures.shares.3
