use Rattle.std.proofs.Common.{[]}
use Rattle.std.specs.Arc.{arc_value}
use Rattle.std.specs.Int.NonZero.{non_zero_usize_get}
use Rattle.mcv_core.specs.Opening.{opened_within}
use Rattle.mcv_poll_tests.proofs.play.play.Given as goal

-- the ledgers are those that the two blanks open
abbrev pub ghosts-play_with-B-Ledger : goal.ghosts-play_with-B-Ledger
ghosts-play_with-B-Ledger g a = record { name = a.begun.name; parts = a.begun.parts }

abbrev pub ghosts-play_with-T-Ledger : goal.ghosts-play_with-T-Ledger
ghosts-play_with-T-Ledger g a = record { name = a.taken.name; parts = a.taken.parts }

abbrev pub ghosts-play_with-B-HubLedger : goal.ghosts-play_with-B-HubLedger
ghosts-play_with-B-HubLedger g a = record { number = 0; opened = opened_within (non_zero_usize_get a.flights) (arc_value a.accepted) [] }
