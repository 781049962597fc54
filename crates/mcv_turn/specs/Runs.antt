-- A turn: events of the guard, one after the other (own).
use Rattle.std.specs.Prelude.{◌≡◌, ◌++◌, ◌∷◌, [], ℕ, List, Option, Result, Ok, Err}
use Rattle.mcv_base.specs.declared.request.CallId.{CallId}
use Rattle.mcv_base.specs.declared.request.LegId.{LegId}
use Rattle.mcv_base.specs.declared.request.Moment.{Moment}
use Rattle.mcv_base.specs.declared.request.Request.{Request}
use Rattle.mcv_base.specs.declared.request.ServerId.{ServerId}
use Rattle.mcv_core.specs.Events.{IsClocked, IsNext, IsRefusedLeg, IsReplay, IsSpooledLeg, IsTaken, IsUnmarked}
use Rattle.mcv_core.specs.View.{core_view}
use Rattle.mcv_core.specs.declared.fault.CoreFault.{CoreFault}
use Rattle.mcv_core.specs.declared.step.Step.{Step}
use Rattle.mcv_core.specs.declared.turn.Era.{Era}
use Rattle.mcv_hub.specs.Events.{IsHubEvent, taken_part}
use Rattle.mcv_hub.specs.Gate.{IsGate}
use Rattle.mcv_hub.specs.State.{HubView}
use Rattle.mcv_hub.specs.declared.gate.Gate.{Gate}
use Rattle.mcv_hub.specs.declared.seat.TakenReply.{TakenReply}
use Rattle.mcv_spool.specs.declared.record.Stored.{Stored}
use Rattle.mcv_turn.specs.Steps.{Begins, IsGivenBack, IsGivenUp, IsReported, IsSent, IsSentAgain}
use Rattle.mcv_turn.specs.declared.arrival.Arrival.{Arrival}
use Rattle.mcv_turn.specs.declared.flight.Flight.{Flight}

-- events led from the one state to the other; of these events each arrival is one, in their order, and by others the flights came in flight,
-- in their order, and no other leg that is to be sent
pub data Runs : HubView → List Arrival → List Flight → HubView → Type 0 where
  nothing : (v : HubView) → Runs v [] [] v
  clocked : (old new : HubView) (moment : Moment) (r : Result (Option Era) CoreFault) → IsHubEvent (IsClocked (core_view old.core) moment r) old new → Runs old [] [] new
  unmarked : (old new : HubView) (server : ServerId) → IsHubEvent (IsUnmarked (core_view old.core) server) old new → Runs old [] [] new
  reported : (old new : HubView) (a : Arrival) → IsReported a.server a.leg a.reply old new → Runs old (a ∷ []) [] new
  stored : (old new : HubView) (leg : LegId) (s : Stored) (r : Result Step CoreFault) → IsHubEvent (IsSpooledLeg (core_view old.core) leg s r) old new → Runs old [] [] new
  refused : (old new : HubView) (leg : LegId) (r : Result Step CoreFault) → IsHubEvent (IsRefusedLeg (core_view old.core) leg r) old new → Runs old [] [] new
  entered : (old new : HubView) (gate : Gate) → IsGate old gate new → Runs old [] [] new
  begun : (old new : HubView) (request : Request) (key : ℕ) (r : Result CallId CoreFault) → Begins old request key r new → Runs old [] [] new
  sent : (old new : HubView) (server : ServerId) (f : Flight) → IsSent server f old new → Runs old [] (f ∷ []) new
  sent_again : (old new : HubView) (server : ServerId) (f : Flight) → IsSentAgain server f old new → Runs old [] (f ∷ []) new
  given_back : (old new : HubView) (server : ServerId) (leg : LegId) → IsGivenBack server leg old new → Runs old [] [] new
  unspooled : (old new : HubView) (server : ServerId) (fault : CoreFault) → IsHubEvent (IsReplay (core_view old.core) server (Err fault)) old new → Runs old [] [] new
  given_up : (old new : HubView) (server : ServerId) (leg : LegId) → IsGivenUp server leg old new → Runs old [] [] new
  unsent : (old new : HubView) (server : ServerId) (fault : CoreFault) → IsHubEvent (IsNext (core_view old.core) server (Err fault)) old new → Runs old [] [] new
  taken : (old new : HubView) (call : CallId) (r : Result (Option TakenReply) CoreFault) → IsHubEvent (IsTaken (core_view old.core) call (taken_part r)) old new → Runs old [] [] new
  -- the one after the other
  joined : (old mid new : HubView) (cs ds : List Arrival) (fs gs : List Flight) → Runs old cs fs mid → Runs mid ds gs new → Runs old (cs ++ ds) (fs ++ gs) new

-- legs came in flight in a run without arrivals: behind those that were to be sent stand the run's
pub record SendsMore (old new : HubView) (before after : List Flight) : Type 0 where
  pub more : List Flight
  pub are : after ≡ before ++ more
  pub run : Runs old [] more new

-- a turn: each arrival is reported, and the legs that are to be sent are those that came in flight
pub record IsTurn (old new : HubView) (arrivals : List Arrival) (before after : List Flight) : Type 0 where
  pub more : List Flight
  pub are : after ≡ before ++ more
  pub run : Runs old arrivals more new
