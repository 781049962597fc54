-- What happened at a hub, under its lock (own).
use Rattle.std.specs.Prelude.{◌≡◌, ℕ, List, Option, Result, Ok, Err, IfOk, IfSome}
use Rattle.mcv_base.specs.declared.request.CallId.{CallId}
use Rattle.mcv_base.specs.declared.request.Request.{Request}
use Rattle.mcv_core.specs.Events.{IsTaken}
use Rattle.mcv_core.specs.View.{core_view}
use Rattle.mcv_core.specs.declared.fault.CoreFault.{CoreFault}
use Rattle.mcv_hub.specs.Events.{IsHubEvent, IsReceived, taken_part}
use Rattle.mcv_hub.specs.Gate.{IsHubBegun}
use Rattle.mcv_hub.specs.State.{HistoryKeepsDeletes, HubView}
use Rattle.mcv_hub.specs.declared.seat.TakenReply.{TakenReply}
use Rattle.mcv_hubs.specs.Choice.{IsHubOf}
use Rattle.mcv_hubs.specs.Counts.{Tally, begun_by, change_at}
use Rattle.mcv_hubs.specs.declared.hubs.HubCall.{HubCall}

-- a call began for the key at the hub of this number, or was refused there
pub record WasBegun (hub : ℕ) (request : Request) (key : ℕ) (result : Result CallId CoreFault) : Type 0 where
  pub before : HubView
  pub after : HubView
  pub number : before.hub ≡ hub
  pub event : IsHubBegun before request key result after

-- the reply of the call was taken at the hub of this number, which its receipt names, or it has none, or no such call runs there; deletes
-- were kept
pub record WasTaken (hub : ℕ) (call : CallId) (result : Result (Option TakenReply) CoreFault) : Type 0 where
  pub before : HubView
  pub after : HubView
  pub number : before.hub ≡ hub
  pub keeps : HistoryKeepsDeletes (core_view before.core) before.history
  pub event : IsHubEvent (IsTaken (core_view before.core) call (taken_part result)) before after
  pub receipt : IfOk result (λ o. IfSome o (IsReceived before call))

-- ---- of several hubs

abbrev pub call_of : Result HubCall CoreFault → Result CallId CoreFault
call_of (Ok c) = Ok c.call
call_of (Err fault) = Err fault

-- a call began at the hub of its key, or was refused there, and is counted there alone
pub record IsBegunAt (hubs : ℕ) (request : Request) (key : ℕ) (old : List Tally) (result : Result HubCall CoreFault) (new : List Tally) : Type 0 where
  pub hub : ℕ
  pub of_key : IsHubOf hubs request key hub
  pub named : IfOk result (λ c. c.hub ≡ hub)
  pub event : WasBegun hub request key (call_of result)
  pub counted : new ≡ change_at hub (begun_by result) old
