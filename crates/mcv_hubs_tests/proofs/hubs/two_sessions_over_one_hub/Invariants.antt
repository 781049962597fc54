use Rattle.std.proofs.Common.{[]}
use Rattle.std.specs.Arc.{arc_value}
use Rattle.mcv_core.specs.Opening.{opened_view}
use Rattle.mcv_hubs.specs.Blanks.{name_at}
use Rattle.mcv_hubs_tests.proofs.hubs.two_sessions_over_one_hub.Given as goal

-- the ledgers are those that the blanks open
abbrev pub ghosts-two_sessions-F-Names : goal.ghosts-two_sessions-F-Names
ghosts-two_sessions-F-Names g a = record { name_of = name_at a.begun; parts_of = a.begun.blank0.parts }

abbrev pub ghosts-two_sessions-G-Names : goal.ghosts-two_sessions-G-Names
ghosts-two_sessions-G-Names g a = record { name_of = name_at a.taken; parts_of = a.taken.blank0.parts }

-- and each hub is opened without records
abbrev pub ghosts-two_sessions-F-HubNames : goal.ghosts-two_sessions-F-HubNames
ghosts-two_sessions-F-HubNames g a = record { opened_of = λ hub. opened_view (arc_value a.accepted) [] }
