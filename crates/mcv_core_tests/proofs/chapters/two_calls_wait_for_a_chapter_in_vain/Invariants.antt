use Rattle.std.proofs.Common.{[]}
use Rattle.std.specs.Arc.{arc_value}
use Rattle.mcv_core.specs.Opening.{opened_view}
use Rattle.mcv_core_tests.proofs.chapters.two_calls_wait_for_a_chapter_in_vain.Given as goal

-- the ledgers are those that the two blanks open
abbrev pub ghosts-awaited_chapter-B-Ledger : goal.ghosts-awaited_chapter-B-Ledger
ghosts-awaited_chapter-B-Ledger g a = record { name = a.begun.name; parts = a.begun.parts }

abbrev pub ghosts-awaited_chapter-T-Ledger : goal.ghosts-awaited_chapter-T-Ledger
ghosts-awaited_chapter-T-Ledger g a = record { name = a.taken.name; parts = a.taken.parts }

abbrev pub ghosts-awaited_chapter-B-HubLedger : goal.ghosts-awaited_chapter-B-HubLedger
ghosts-awaited_chapter-B-HubLedger g a = record { number = 0; opened = opened_view (arc_value a.accepted) [] }
