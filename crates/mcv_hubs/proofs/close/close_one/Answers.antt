use Rattle.std.proofs.Common.{◌∙◌, List, inl, refl, subst}
use Rattle.mcv_hub.specs.declared.receipts.Receipt.{Receipt}
use Rattle.mcv_hubs.specs.Counts.{tally}
use Rattle.mcv_hubs.specs.Reports.{IsAnswerOf}
use Rattle.mcv_hubs.proofs.close.close_one.Goals as goal

pub returns-in-Ok-clause-answer : goal.returns-in-Ok-clause-answer
returns-in-Ok-clause-answer g c =
    let s = c.args.seat.now in
    let P : List Receipt → Type 0 = λ xs. IsAnswerOf g.B.HubLedger.number g.B.Ledger.parts g.T.Ledger.parts xs (tally s.begun.amount s.taken.amount s.begun.parts s.taken.parts) c.close.result in
    subst P (c.as_slice.ensures.value ∙ c.in-Ok.ensures) c.close.ensures.answer

pub returns-in-Err-clause-answer : goal.returns-in-Err-clause-answer
returns-in-Err-clause-answer g c = inl refl
