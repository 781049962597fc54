-- What one step of a turn does to the borrowed state (own).
use Rattle.std.specs.Prelude.{◌≡◌, ◌⊎◌, ℕ, false, Some, Result, Ok, Err, OnOk, OnErr}
use Rattle.mcv_base.specs.Reply.{ReplyValue}
use Rattle.mcv_base.specs.declared.request.CallId.{CallId}
use Rattle.mcv_base.specs.declared.request.LegId.{LegId}
use Rattle.mcv_base.specs.declared.request.Request.{Request}
use Rattle.mcv_base.specs.declared.request.ServerId.{ServerId}
use Rattle.mcv_core.specs.Events.{IsAnsweredLeg, IsLostLeg, IsLostTooLeg, IsMarked}
use Rattle.mcv_core.specs.Requests.{asked_at, asked_by}
use Rattle.mcv_core.specs.View.{core_view, records_of}
use Rattle.mcv_core.specs.declared.fault.CoreFault.{CoreFault}
use Rattle.mcv_core.specs.declared.fault.CoreFault.TheVariants.{Memory}
use Rattle.mcv_core.specs.declared.step.Change.TheVariants.{Performed}
use Rattle.mcv_core.specs.declared.step.Step.{Step}
use Rattle.mcv_hub.specs.Events.{IsHubEvent}
use Rattle.mcv_hub.specs.Gate.{IsHubBegun}
use Rattle.mcv_hub.specs.State.{HubView}
use Rattle.mcv_turn.specs.Flights.{IsNext, IsReplayed, is_marked}
use Rattle.mcv_turn.specs.declared.arrival.Arrival.{Arrival}
use Rattle.mcv_turn.specs.declared.arrival.NoReply.{NoReply}
use Rattle.mcv_turn.specs.declared.arrival.NoReply.TheVariants as no_reply
use Rattle.mcv_turn.specs.declared.flight.Departure.{Departure}
use Rattle.mcv_turn.specs.declared.flight.Departure.TheVariants.{Sent, Lost}
use Rattle.mcv_turn.specs.declared.flight.Flight.{Flight}

-- ---- a call begins

-- the call is begun, or refused, under the lock; or memory ran out before the hub was asked
abbrev pub Begins : HubView → Request → ℕ → Result CallId CoreFault → HubView → Type 0
Begins old request key begun new = IsHubBegun old request key begun new ⊎ ((begun ≡ Err Memory) × (new ≡ old))

-- ---- what becomes of a leg in flight

-- the leg was lost, and then the server marked where three or more failures came in a row; where the loss is refused nothing has changed
pub record IsLoss (server : ServerId) (leg : LegId) (old new : HubView) (result : Result Step CoreFault) : Type 0 where
  -- after the loss
  pub mid : HubView
  pub event : IsHubEvent (IsLostLeg (core_view old.core) leg result) old mid
  pub marked : OnOk result (IsHubEvent (IsMarked (core_view mid.core) server) mid new)
  pub refused : OnErr result (new ≡ mid)

-- or lost too, with the connection of which an older leg's loss has told: no failure of its server more, and no mark
abbrev pub IsLostAs : ServerId → LegId → NoReply → HubView → HubView → Result Step CoreFault → Type 0
IsLostAs server leg no_reply.Lost old new result = IsLoss server leg old new result
IsLostAs server leg no_reply.LostToo old new result = IsHubEvent (IsLostTooLeg (core_view old.core) leg result) old new

-- the leg is answered, or has no reply
abbrev pub IsLanding : ServerId → LegId → Result ReplyValue NoReply → HubView → HubView → Result Step CoreFault → Type 0
IsLanding server leg (Ok x) old new result = IsHubEvent (IsAnsweredLeg (core_view old.core) leg x result) old new
IsLanding server leg (Err why) old new result = IsLostAs server leg why old new result

-- what became of it was reported
pub record IsReported (server : ServerId) (leg : LegId) (reply : Result ReplyValue NoReply) (old new : HubView) : Type 0 where
  pub result : Result Step CoreFault
  pub landing : IsLanding server leg reply old new result

-- the leg that arrived, which the spool has as the record of this number, was performed by its server
pub record WasPerformed (number : ℕ) (a : Arrival) (old new : HubView) : Type 0 where
  pub stored : records_of old.core a.leg.0 ≡ Some number
  pub step : Step
  pub landing : IsLanding a.server a.leg a.reply old new (Ok step)
  pub performed : step.change ≡ Performed

-- ---- a leg comes in flight

-- the server's first waiting leg came in flight and is to be sent: the server isn't marked, and this is what the leg asks
pub record IsSent (server : ServerId) (flight : Flight) (old new : HubView) : Type 0 where
  pub server_is : flight.server ≡ server
  pub next : IsNext server flight.leg old new
  pub unmarked : is_marked new server ≡ false
  pub asks : asked_at new.core flight.leg.0 ≡ Some (asked_by flight.request)

-- the server's first leg in the spool came in flight again and is to be sent
pub record IsSentAgain (server : ServerId) (flight : Flight) (old new : HubView) : Type 0 where
  pub server_is : flight.server ≡ server
  pub replay : IsReplayed server flight.leg old new
  pub unmarked : is_marked new server ≡ false
  pub asks : asked_at new.core flight.leg.0 ≡ Some (asked_by flight.request)

-- it came in flight, and was lost at once
pub record IsGivenUp (server : ServerId) (leg : LegId) (old new : HubView) : Type 0 where
  pub mid : HubView
  pub next : IsNext server leg old mid
  pub result : Result Step CoreFault
  pub loss : IsLoss server leg mid new result

-- the same of one that came in flight again
pub record IsGivenBack (server : ServerId) (leg : LegId) (old new : HubView) : Type 0 where
  pub mid : HubView
  pub replay : IsReplayed server leg old mid
  pub result : Result Step CoreFault
  pub loss : IsLoss server leg mid new result

-- what becomes of the first leg that waits for a server
abbrev pub IsDeparture : ServerId → HubView → HubView → Departure → Type 0
IsDeparture server old new (Sent flight) = IsSent server flight old new
IsDeparture server old new (Lost leg call) = IsGivenUp server leg old new

-- and of the first one in the spool
abbrev pub IsReturn : ServerId → HubView → HubView → Departure → Type 0
IsReturn server old new (Sent flight) = IsSentAgain server flight old new
IsReturn server old new (Lost leg call) = IsGivenBack server leg old new
