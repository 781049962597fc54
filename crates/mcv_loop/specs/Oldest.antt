-- Since when a server owes an answer for the longest (own).
use Rattle.std.specs.Prelude.{List, [], ◌∷◌, Option}
use Rattle.std.specs.declared.time.Instant.{Instant}
use Rattle.mcv_connection.specs.declared.connection.Connection.{Ghosts}
use Rattle.mcv_lines.specs.Line.{since_in}
use Rattle.mcv_schedule.specs.Moments.{earlier}
use Rattle.mcv_loop.specs.declared.lines.Entry.{Entry}

module _ {C : Type 0} {g : Ghosts C} where
  -- the earliest of a moment and those since when the servers owe answers
  abbrev pub oldest_since : Option Instant → List (Entry C g) → Option Instant
  oldest_since now [] = now
  oldest_since now (e ∷ rest) = oldest_since (earlier now (since_in e.line.state)) rest
