-- Deletes are kept after each event, in the world that its move gives (own).
use Rattle.std.specs.Prelude.{◌≡◌, ℕ, List, Option, None, Some}
use Rattle.mcv_route.specs.Routes.{RoutesValue}
use Rattle.mcv_spool.specs.declared.record.SpoolRecord.{SpoolRecord}
use Rattle.mcv_world.specs.KeptLegs.{Kept}
use Rattle.mcv_world.specs.Laws.{IsWorld}
use Rattle.mcv_world.specs.LiveWorld.{live_of}
use Rattle.mcv_world.specs.Moves.{Move, after}
use Rattle.mcv_world.specs.World.{World}
use Rattle.mcv_events.specs.Rows.{world_of}
use Rattle.mcv_symbolic.specs.CoveredRoutes.{AreCovered}
use Rattle.mcv_core.specs.CoreView.{CoreView, Does}
use Rattle.mcv_core.specs.Opening.{opened_within}

-- the routes are covered, deletes are kept in this world, and the core keeps what is left of it
pub record KeepsDeletes (v : CoreView) (world : World) : Type 0 where
  pub covered : AreCovered v.routes
  pub is : IsWorld v.routes world
  pub live : live_of v.routes world ≡ world_of v.rows
  pub kept : Kept v.routes world

-- a world after what may be a move
abbrev pub after_event : RoutesValue → World → Option Move → World
after_event r world None = world
after_event r world (Some m) = after r world m

-- an event that may be a move leads from the first view to the second, and deletes that were kept in a world are kept in the world
-- after the move: a call stays in it that the core has forgotten
abbrev pub DeletesStayKept : CoreView → CoreView → Option Move → Type 0
DeletesStayKept v w m = (world : World) → KeepsDeletes v world → KeepsDeletes w (after_event v.routes world m)

-- ---- laws

abbrev pub EventsKeepDeletes : Type 0
EventsKeepDeletes = (v w : CoreView) (m : Option Move) → Does v w m → DeletesStayKept v w m

abbrev pub OpenedCoresKeepDeletes : Type 0
OpenedCoresKeepDeletes = (limit : ℕ) (r : RoutesValue) (records : List (ℕ × SpoolRecord)) → AreCovered r → KeepsDeletes (opened_within limit r records) (world_of (opened_within limit r records).rows)
