use Rattle.std.proofs.Common.{[]}
use Rattle.std.specs.Arc.{arc_value}
use Rattle.mcv_core.specs.Opening.{opened_view}
use Rattle.mcv_core_tests.proofs.chapters.chapters_end_at_half_their_entries.Given as goal

-- the ledgers are those that the two blanks open
abbrev pub ghosts-three_chapters-B-Ledger : goal.ghosts-three_chapters-B-Ledger
ghosts-three_chapters-B-Ledger g a = record { name = a.begun.name; parts = a.begun.parts }

abbrev pub ghosts-three_chapters-T-Ledger : goal.ghosts-three_chapters-T-Ledger
ghosts-three_chapters-T-Ledger g a = record { name = a.taken.name; parts = a.taken.parts }

abbrev pub ghosts-three_chapters-B-HubLedger : goal.ghosts-three_chapters-B-HubLedger
ghosts-three_chapters-B-HubLedger g a = record { number = 0; opened = opened_view (arc_value a.accepted) [] }
