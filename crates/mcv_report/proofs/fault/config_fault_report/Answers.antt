use Rattle.std.proofs.Common.{◌≡◌, ◌∙◌, List, ℕ, Option, ap}
use Rattle.std.proofs.lemmas.Result.{IfOk-weaker}
use Rattle.mcv_report.specs.FaultReport.{placed_fault_report}
use Rattle.mcv_report.proofs.fault.config_fault_report.Goals as goal

-- equal parts make equal reports
same_report : (column column' line line' : Option ℕ) (name name' : List ℕ) (n n' : ℕ) (pointer pointer' : List ℕ) → column ≡ column' → line ≡ line' → name ≡ name' → n ≡ n'
    → pointer ≡ pointer' → placed_fault_report column line name n pointer ≡ placed_fault_report column' line' name' n' pointer'
same_report column column' line line' name name' n n' pointer pointer' of_column of_line of_name of_number of_pointer =
    ap (λ (x : Option ℕ). placed_fault_report x line name n pointer) of_column
    ∙ (ap (λ (x : Option ℕ). placed_fault_report column' x name n pointer) of_line
    ∙ (ap (λ (x : List ℕ). placed_fault_report column' line' x n pointer) of_name
    ∙ (ap (λ (x : ℕ). placed_fault_report column' line' name' x pointer) of_number ∙ ap (λ (x : List ℕ). placed_fault_report column' line' name' n' x) of_pointer)))

pub returns : goal.returns
returns c =
    IfOk-weaker c.placed_fault_report.result _ _
    (λ report is.
    is
    ∙ same_report c.column_of-column.result _ c.line_of-line.result _ c.fault_name-name.result.now _ c.number.result _ c.as_slice.result.now _ c.column_of-column.ensures c.line_of-line.ensures
    c.fault_name-name.ensures c.number.ensures (c.as_slice.ensures.value ∙ c.in_ok-pointer.ensures)) c.placed_fault_report.ensures
