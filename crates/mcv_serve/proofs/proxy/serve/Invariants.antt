use Rattle.std.specs.Arc.{arc_value}
use Rattle.mcv_core.specs.Opening.{opened_within}
use Rattle.mcv_hubs.specs.Blanks.{name_at}
use Rattle.mcv_hubs.specs.Choice.{records_at}
use Rattle.mcv_serve.proofs.proxy.serve.Given as goal

-- the ledgers are those that the blanks open
abbrev pub ghosts-serve_hubs-F-Names : goal.ghosts-serve_hubs-F-Names
ghosts-serve_hubs-F-Names g a = record { name_of = name_at a.books.begun; parts_of = a.books.begun.blank0.parts }

abbrev pub ghosts-serve_hubs-G-Names : goal.ghosts-serve_hubs-G-Names
ghosts-serve_hubs-G-Names g a = record { name_of = name_at a.books.taken; parts_of = a.books.taken.blank0.parts }

-- and each hub is opened with the records of its keys
abbrev pub ghosts-serve_hubs-F-HubNames : goal.ghosts-serve_hubs-F-HubNames
ghosts-serve_hubs-F-HubNames g a = record { opened_of = λ hub. opened_within 64 (arc_value a.hubs.0) (records_at a.hubs.1 hub a.store.records.items) }
