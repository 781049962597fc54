-- What hubs report once all sessions have ended (own).
use Rattle.std.specs.Prelude.{◌≡◌, ◌+◌, ◌<◌, ◌⊎◌, ℕ, List, [], ◌∷◌, Result, Ok, Err, ⊤, All, filter, fold, nat_eq}
use Rattle.mcv_core.specs.View.{core_view}
use Rattle.mcv_hub.specs.Receipts.{ArePassed, AreRefused}
use Rattle.mcv_hub.specs.State.{HistoryKeepsDeletes, HubView}
use Rattle.mcv_plan.specs.Counts.{capped}
use Rattle.mcv_hub.specs.declared.receipts.Receipt.{Receipt}
use Rattle.mcv_hub.specs.declared.receipts.ReceiptFault.{ReceiptFault}
use Rattle.mcv_hub.specs.declared.receipts.ReceiptFault.TheVariants as faults
use Rattle.mcv_hub.specs.declared.receipts.Report.{Report}
use Rattle.mcv_hubs.specs.Counts.{Tally}

-- ---- one hub, which has this number, and whose books have these parts

-- under its lock, in a state in which deletes are kept, its books counted this, and these receipts passed; shares that have all parts of
-- a book counted the same
pub record IsReportOf (hub begun_parts taken_parts : ℕ) (receipts : List Receipt) (t : Tally) (report : Report) : Type 0 where
  pub state : HubView
  pub number : state.hub ≡ hub
  pub keeps : HistoryKeepsDeletes (core_view state.core) state.history
  pub begun : report.begun ≡ state.begun
  pub taken : report.taken ≡ state.taken
  pub passed : ArePassed state.hub state.chapter state.history receipts report.older
  pub all_begun : t.begun_parts ≡ begun_parts → report.begun ≡ t.begun
  pub all_taken : t.taken_parts ≡ taken_parts → report.taken ≡ t.taken

-- under its lock they were refused
pub record WereRefused (hub : ℕ) (receipts : List Receipt) (fault : ReceiptFault) : Type 0 where
  pub state : HubView
  pub number : state.hub ≡ hub
  pub refused : AreRefused state.hub state.chapter state.history receipts fault

-- its answer. Memory may run out before it is asked
abbrev pub IsAnswerOf : (hub begun_parts taken_parts : ℕ) → List Receipt → Tally → Result Report ReceiptFault → Type 0
IsAnswerOf hub begun_parts taken_parts receipts t (Ok report) = IsReportOf hub begun_parts taken_parts receipts t report
IsAnswerOf hub begun_parts taken_parts receipts t (Err fault) = (fault ≡ faults.Memory) ⊎ WereRefused hub receipts fault

-- ---- all hubs

abbrev pub receipts_at : (hub : ℕ) → List Receipt → List Receipt
receipts_at hub receipts = filter (λ r. nat_eq r.hub hub) receipts

-- the answers of the hubs from this number on, each on the receipts that name it
abbrev pub AreAnswersFrom : (begun_parts taken_parts hub : ℕ) → List Receipt → List Tally → List (Result Report ReceiptFault) → Type 0
AreAnswersFrom begun_parts taken_parts hub receipts [] [] = ⊤
AreAnswersFrom begun_parts taken_parts hub receipts [] (answer ∷ answers) = ⊥
AreAnswersFrom begun_parts taken_parts hub receipts (t ∷ ts) [] = ⊥
AreAnswersFrom begun_parts taken_parts hub receipts (t ∷ ts) (answer ∷ answers) =
    IsAnswerOf hub begun_parts taken_parts (receipts_at hub receipts) t answer × AreAnswersFrom begun_parts taken_parts (hub + 1) receipts ts answers

-- a count that is too large for 64 bits is 2^64 - 1
abbrev pub sum_of_two : Report → Report → Report
sum_of_two p q = record { begun = capped (p.begun + q.begun); taken = capped (p.taken + q.taken); older = capped (p.older + q.older) }

-- both reports, added up; where one is refused, the first refusal
abbrev pub both : Result Report ReceiptFault → Result Report ReceiptFault → Result Report ReceiptFault
both (Ok p) (Ok q) = Ok (sum_of_two p q)
both (Ok p) (Err fault) = Err fault
both (Err fault) answer = Err fault

abbrev pub together : List (Result Report ReceiptFault) → Result Report ReceiptFault
together answers = fold both (Ok (record { begun = 0; taken = 0; older = 0 })) answers

-- each receipt names one of the eight
abbrev pub AreOfHubs : List Receipt → Type 0
AreOfHubs receipts = All (λ r. r.hub < 8) receipts

-- some receipt names no hub; or each hub answers on those that name it, and this is the sum, or the first refusal
pub data IsClosing (begun_parts taken_parts : ℕ) (receipts : List Receipt) (ts : List Tally) (result : Result Report ReceiptFault) : Type 0 where
  unknown : (AreOfHubs receipts → ⊥) → result ≡ Err faults.Stranger → IsClosing begun_parts taken_parts receipts ts result
  known : AreOfHubs receipts → (answers : List (Result Report ReceiptFault)) → AreAnswersFrom begun_parts taken_parts 0 receipts ts answers → result ≡ together answers → IsClosing begun_parts taken_parts receipts ts result
