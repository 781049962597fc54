-- What is known of legs that a loop has in hand: what was seen under the lock (own).
use Rattle.std.specs.Prelude.{◌≡◌, ◌⊎◌, ℕ, Bool, false, List, Option, Some, Ok, slice_get}
use Rattle.mcv_base.specs.declared.request.LegId.{LegId}
use Rattle.mcv_base.specs.declared.request.LegRequest.{LegRequest}
use Rattle.mcv_base.specs.declared.request.ServerId.{ServerId}
use Rattle.mcv_events.specs.Rows.{LegRow}
use Rattle.mcv_core.specs.Events.{IsNext as IsNextOf, IsReplay}
use Rattle.mcv_core.specs.Readers.{IsFirstHeld}
use Rattle.mcv_core.specs.Requests.{asked_at, asked_by}
use Rattle.mcv_core.specs.View.{core_view}
use Rattle.mcv_hub.specs.Events.{IsHubEvent}
use Rattle.mcv_hub.specs.State.{HistoryKeepsDeletes, HubView}
use Rattle.mcv_spool.specs.declared.record.SpoolRecord.{SpoolRecord}

-- ---- which leg is sent

-- the server has a mark
abbrev pub is_marked : HubView → ServerId → Bool
is_marked v server = ((core_view v.core).marks server.0).marked

-- the server's first waiting leg came in flight
abbrev pub IsNext : ServerId → LegId → HubView → HubView → Type 0
IsNext server leg old new = IsHubEvent (IsNextOf (core_view old.core) server (Ok leg)) old new

-- or its first leg in the spool did, again
abbrev pub IsReplayed : ServerId → LegId → HubView → HubView → Type 0
IsReplayed server leg old new = IsHubEvent (IsReplay (core_view old.core) server (Ok leg)) old new

-- the leg came in flight so in this state, behind one in which deletes are kept
pub record CameInFlight (server : ServerId) (leg : LegId) (state : HubView) : Type 0 where
  pub before : HubView
  pub keeps : HistoryKeepsDeletes (core_view before.core) before.history
  pub event : IsNext server leg before state ⊎ IsReplayed server leg before state

-- the leg may be sent: it came in flight while its server wasn't marked, and this is what it asks
pub record MayBeSent (server : ServerId) (leg : LegId) (request : LegRequest) : Type 0 where
  pub state : HubView
  pub came : CameInFlight server leg state
  pub unmarked : is_marked state server ≡ false
  pub asks : asked_at state.core leg.0 ≡ Some (asked_by request)

-- ---- which leg is spooled

-- the record has the leg's rest, and the text of its server, where these are the texts of the servers
pub record IsRecordOf (texts : List (Option (List ℕ))) (state : HubView) (leg : LegId) (delete : SpoolRecord) : Type 0 where
  pub row : LegRow
  pub there : (core_view state.core).rows.legs leg.0 ≡ Some row
  pub text : slice_get texts row.launch.server.0 ≡ Some (Some delete.server)
  pub rest : delete.rest ≡ row.rest

-- under the lock, where deletes are kept, the leg was the one that the spool was to take next, and the record has its rest
pub record IsHeldLeg (leg : LegId) (delete : SpoolRecord) : Type 0 where
  pub state : HubView
  pub keeps : HistoryKeepsDeletes (core_view state.core) state.history
  pub first : IsFirstHeld (core_view state.core).rows (Some leg.0)
  pub row : LegRow
  pub there : (core_view state.core).rows.legs leg.0 ≡ Some row
  pub rest : delete.rest ≡ row.rest
