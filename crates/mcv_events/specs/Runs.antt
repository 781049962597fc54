-- Lists of events on the rows of a core, from its opening on (own).
use Rattle.std.specs.Prelude.{◌≡◌, ℕ, List, [], ◌∷◌, Option, Some, None, length, option_map, slice_get}
use Rattle.mcv_base.specs.declared.operation.Op.TheVariants.{Delete}
use Rattle.mcv_base.specs.declared.operation.Mark.TheVariants.{Plain}
use Rattle.mcv_route.specs.Routes.{RoutesValue}
use Rattle.mcv_route.specs.Eras.{IsEra}
use Rattle.mcv_symbolic.specs.CoveredRoutes.{AreCovered}
use Rattle.mcv_world.specs.World.{World}
use Rattle.mcv_world.specs.Moves.{Move, run}
use Rattle.mcv_world.specs.PossibleMoves.{IsAllowed, ArePossible, IsOpening}
use Rattle.mcv_world.specs.LiveWorld.{live_of}
use Rattle.mcv_world.specs.KeptLegs.{Kept}
use Rattle.mcv_world.specs.Laws.{IsWorld}
use Rattle.mcv_events.specs.Rows.{InSpool, LegRow, Rows, world_of, IsCore}
use Rattle.mcv_events.specs.Events.{Moves}

-- a record that the spool held when the core was opened: a server's number and a rest
abbrev pub OpenedRecord : Type 0
OpenedRecord = ℕ × List ℕ

-- its leg: a delete of no call, at the root, under no shadow
abbrev pub spooled_row : OpenedRecord → LegRow
spooled_row s = record { call = None; entry = 0; launch = record { position = []; server = record { 0 = s.0 }; op = Delete; mark = Plain }; rest = s.1; request = None; state = InSpool }

-- no call, and the legs of these records, numbered from 0 in their order
abbrev pub opened : Option ℕ → List OpenedRecord → Rows
opened since records = record { calls = λ k. None; legs = λ n. option_map spooled_row (slice_get records n); since = since; next_call = 0; next_leg = length records }

-- events lead from the first rows to the last ones: those that are moves are these, in their order, and any other leaves
-- the world that the rows keep as it is
pub data Runs (r : RoutesValue) : Rows → List Move → Rows → Type 0 where
  done : (w : Rows) → Runs r w [] w
  moved : (old mid new : Rows) (m : Move) (ms : List Move) → IsAllowed r m → Moves r old mid m → Runs r mid ms new → Runs r old (m ∷ ms) new
  no_move : (old mid new : Rows) (ms : List Move) → world_of mid ≡ world_of old → Runs r mid ms new → Runs r old ms new

-- ---- laws

abbrev pub OpenedIsCore : Type 0
OpenedIsCore = (r : RoutesValue) (since : Option ℕ) (records : List OpenedRecord) → IsCore r (opened since records)

-- rows without calls, all of whose legs are in the spool, keep an opening world: those of opened records, and those at the end of a
-- chapter
abbrev pub SpooledRowsOpen : Type 0
SpooledRowsOpen =
    (r : RoutesValue) (w : Rows) → IsCore r w → ((k : ℕ) → w.calls k ≡ None) → ((n : ℕ) (s : LegRow) → w.legs n ≡ Some s → s.state ≡ InSpool) → IsEra r w.since
    → IsOpening r (world_of w) × (live_of r (world_of w) ≡ world_of w)

-- in every world of which the first rows keep what is left, the moves are possible, and they lead to a world of which
-- the last rows keep what is left
abbrev pub RunsAreMoves : Type 0
RunsAreMoves =
    (r : RoutesValue) (old new : Rows) (ms : List Move) → Runs r old ms new → (w : World) → IsWorld r w → live_of r w ≡ world_of old
    → ArePossible r w ms × (live_of r (run r w ms) ≡ world_of new)

-- where the routes are covered, deletes are kept in the world that any events lead to from opened records, and the last
-- rows keep what is left of it
abbrev pub CoresKeepDeletes : Type 0
CoresKeepDeletes =
    (r : RoutesValue) (since : Option ℕ) (records : List OpenedRecord) (ms : List Move) (new : Rows) → AreCovered r → IsEra r since → Runs r (opened since records) ms new
    → Kept r (run r (world_of (opened since records)) ms) × (live_of r (run r (world_of (opened since records)) ms) ≡ world_of new)
