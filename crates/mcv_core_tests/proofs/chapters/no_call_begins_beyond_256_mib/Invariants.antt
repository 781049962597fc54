use Rattle.std.proofs.Common.{[]}
use Rattle.std.specs.Arc.{arc_value}
use Rattle.mcv_core.specs.Opening.{opened_view}
use Rattle.mcv_core_tests.proofs.chapters.no_call_begins_beyond_256_mib.Given as goal

-- the ledgers are those that the two blanks open
abbrev pub ghosts-heavy_chapter-B-Ledger : goal.ghosts-heavy_chapter-B-Ledger
ghosts-heavy_chapter-B-Ledger g a = record { name = a.begun.name; parts = a.begun.parts }

abbrev pub ghosts-heavy_chapter-T-Ledger : goal.ghosts-heavy_chapter-T-Ledger
ghosts-heavy_chapter-T-Ledger g a = record { name = a.taken.name; parts = a.taken.parts }

abbrev pub ghosts-heavy_chapter-B-HubLedger : goal.ghosts-heavy_chapter-B-HubLedger
ghosts-heavy_chapter-B-HubLedger g a = record { number = 0; opened = opened_view (arc_value a.accepted) [] }
