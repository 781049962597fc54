use Rattle.std.proofs.Common.{◌≡◌, ◌++◌, drop, map}
use Rattle.serde_json.specs.View.{view}
use Rattle.mcv_report.specs.FindingReport.{index_list}
use Rattle.mcv_report.proofs.finding.index_reports.Given as goal

-- what is made, and what is left, are the whole
abbrev pub invariant-loop-number : goal.invariant-loop-number
invariant-loop-number l = map view l.reports.items ++ index_list l.choice l.number (drop l.number l.symbols) ≡ index_list l.choice 0 l.symbols
