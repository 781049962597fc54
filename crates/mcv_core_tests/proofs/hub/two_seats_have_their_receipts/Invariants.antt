use Rattle.std.proofs.Common.{[]}
use Rattle.std.specs.Arc.{arc_value}
use Rattle.mcv_core.specs.Opening.{opened_view}
use Rattle.mcv_core_tests.proofs.hub.two_seats_have_their_receipts.Given as goal

-- the ledgers are those that the two blanks open
abbrev pub ghosts-two_seats-B-Ledger : goal.ghosts-two_seats-B-Ledger
ghosts-two_seats-B-Ledger g a = record { name = a.begun.name; parts = a.begun.parts }

abbrev pub ghosts-two_seats-T-Ledger : goal.ghosts-two_seats-T-Ledger
ghosts-two_seats-T-Ledger g a = record { name = a.taken.name; parts = a.taken.parts }

abbrev pub ghosts-two_seats-B-HubLedger : goal.ghosts-two_seats-B-HubLedger
ghosts-two_seats-B-HubLedger g a = record { number = 0; opened = opened_view (arc_value a.accepted) [] }
