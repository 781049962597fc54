-- What a proxy reports once its clients have gone (own).
use Rattle.std.specs.Prelude.{ℕ, List, Ok}
use Rattle.mcv_hub.specs.declared.receipts.Receipt.{Receipt}
use Rattle.mcv_hub.specs.declared.receipts.Report.{Report}
use Rattle.mcv_hubs.specs.Counts.{Tally}
use Rattle.mcv_hubs.specs.Reports.{IsClosing}

-- the hubs were closed over the receipts of all requests, whose shares counted this
pub record IsReport (report : Report) : Type 0 where
  pub begun_parts : ℕ
  pub taken_parts : ℕ
  pub receipts : List Receipt
  pub counted : List Tally
  pub closed : IsClosing begun_parts taken_parts receipts counted (Ok report)
