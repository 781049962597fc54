-- What a hub answers on the receipts that name it.
use Rattle.std.proofs.Common.{◌≡◌, ◌∙◌, ℕ, List, Result, Ok, Err, inr}
use Rattle.std.specs.Prelude.{IfErr, IfOk}
use Rattle.mcv_core.specs.View.{core_view}
use Rattle.mcv_hub.specs.Receipts.{ArePassed, AreRefused}
use Rattle.mcv_hub.specs.State.{HistoryKeepsDeletes, HubView}
use Rattle.mcv_hub.specs.declared.receipts.Receipt.{Receipt}
use Rattle.mcv_hub.specs.declared.receipts.ReceiptFault.{ReceiptFault}
use Rattle.mcv_hub.specs.declared.receipts.Report.{Report}
use Rattle.mcv_hubs.specs.Counts.{Tally}
use Rattle.mcv_hubs.specs.Reports.{IsAnswerOf}

pub answer_of : (hub begun_parts taken_parts : ℕ) (receipts : List Receipt) (t : Tally) (state : HubView) (r : Result Report ReceiptFault) → state.hub ≡ hub → HistoryKeepsDeletes (core_view state.core) state.history → IfOk r (λ p. p.begun ≡ state.begun) → IfOk r (λ p. p.taken ≡ state.taken)
    → (t.begun_parts ≡ begun_parts → state.begun ≡ t.begun) → (t.taken_parts ≡ taken_parts → state.taken ≡ t.taken) → IfOk r (λ p. ArePassed state.hub state.chapter state.history receipts p.older) → IfErr r (AreRefused state.hub state.chapter state.history receipts)
    → IsAnswerOf hub begun_parts taken_parts receipts t r
answer_of hub begun_parts taken_parts receipts t state (Ok report) number keeps begun taken all_begun all_taken passed refused =
    record { state = state; number = number; keeps = keeps; begun = begun; taken = taken; passed = passed; all_begun = λ e. begun ∙ all_begun e; all_taken = λ e. taken ∙ all_taken e }
answer_of hub begun_parts taken_parts receipts t state (Err fault) number keeps begun taken all_begun all_taken passed refused = inr (record { state = state; number = number; refused = refused })
