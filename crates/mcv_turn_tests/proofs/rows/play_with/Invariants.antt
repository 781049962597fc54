use Rattle.std.proofs.Common.{[]}
use Rattle.std.specs.Arc.{arc_value}
use Rattle.std.specs.Int.NonZero.{non_zero_usize_get}
use Rattle.mcv_core.specs.Opening.{opened_within}
use Rattle.mcv_turn_tests.proofs.rows.play_with.Given as goal

-- the ledgers are those that the two blanks open
abbrev pub ghosts-play-B-Ledger : goal.ghosts-play-B-Ledger
ghosts-play-B-Ledger g a = record { name = a.begun.name; parts = a.begun.parts }

abbrev pub ghosts-play-T-Ledger : goal.ghosts-play-T-Ledger
ghosts-play-T-Ledger g a = record { name = a.taken.name; parts = a.taken.parts }

abbrev pub ghosts-play-B-HubLedger : goal.ghosts-play-B-HubLedger
ghosts-play-B-HubLedger g a = record { number = 0; opened = opened_within (non_zero_usize_get a.flights) (arc_value a.accepted) [] }
