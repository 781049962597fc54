use Rattle.std.proofs.Common.{[]}
use Rattle.std.specs.Arc.{arc_value}
use Rattle.mcv_core.specs.Opening.{opened_within}
use Rattle.mcv_hubs.specs.Blanks.{name_at}
use Rattle.mcv_loop_tests.proofs.play.play_row.Given as goal

-- the ledgers are those that the blanks open
abbrev pub ghosts-play-F-Names : goal.ghosts-play-F-Names
ghosts-play-F-Names g a = record { name_of = name_at a.begun; parts_of = a.begun.blank0.parts }

abbrev pub ghosts-play-G-Names : goal.ghosts-play-G-Names
ghosts-play-G-Names g a = record { name_of = name_at a.taken; parts_of = a.taken.blank0.parts }

-- and each hub is opened without records
abbrev pub ghosts-play-F-HubNames : goal.ghosts-play-F-HubNames
ghosts-play-F-HubNames g a = record { opened_of = λ hub. opened_within 64 (arc_value a.accepted) [] }
