use Rattle.std.proofs.Common.{[]}
use Rattle.std.specs.Arc.{arc_value}
use Rattle.mcv_core.specs.Opening.{opened_view}
use Rattle.mcv_core_tests.proofs.chapters.chapters_end_at_64_mib.Given as goal

-- the ledgers are those that the two blanks open
abbrev pub ghosts-large_values-B-Ledger : goal.ghosts-large_values-B-Ledger
ghosts-large_values-B-Ledger g a = record { name = a.begun.name; parts = a.begun.parts }

abbrev pub ghosts-large_values-T-Ledger : goal.ghosts-large_values-T-Ledger
ghosts-large_values-T-Ledger g a = record { name = a.taken.name; parts = a.taken.parts }

abbrev pub ghosts-large_values-B-HubLedger : goal.ghosts-large_values-B-HubLedger
ghosts-large_values-B-HubLedger g a = record { number = 0; opened = opened_view (arc_value a.accepted) [] }
