-- A connection to a server, with the numbers of the legs that were sent over it (own).
-- Legs 4 and 7 are in flight, a get of a and one of b, and `END` CR LF `END` CR LF comes: each has a miss, and no leg is in flight.
use Rattle.std.specs.Prelude.{◌≡◌, ◌++◌, ℕ, List, [], ◌∷◌, length, map, Option, Some, None, Result, Ok, Err}
use Rattle.mcv_base.specs.declared.request.LegId.{LegId}
use Rattle.mcv_base.specs.declared.reply.Reply.{Reply}
use Rattle.mcv_base.specs.Reply.{ReplyValue, reply_value}
use Rattle.mcv_pipeline.specs.declared.landed.Landed.{Landed}
use Rattle.mcv_reply.specs.declared.fault.ReplyFault.{ReplyFault}
use Rattle.mcv_reply.specs.Replies.{Connection, Open, Closed, Leg, Receives, Sends}

-- the numbers of the legs without a reply, oldest first, and the connection on which replies come
pub record PipelineValue : Type 0 where
  pub legs : List LegId
  pub connection : Connection

-- each leg in flight has its number
abbrev pub HasNumbers : List LegId → Connection → Type 0
HasNumbers numbers (Open legs held) = length numbers ≡ length legs
HasNumbers numbers Closed = Unit {0}

abbrev pub leg_of : Landed → LegId
leg_of landed = landed.leg

abbrev pub reply_of : Landed → ReplyValue
reply_of landed = reply_value landed.reply

abbrev pub numbers_sent : List LegId → LegId → Result Unit ReplyFault → List LegId
numbers_sent numbers number (Ok done) = numbers ++ number ∷ []
numbers_sent numbers number (Err fault) = numbers

-- a leg of this number is sent
pub record SendsLeg (old : PipelineValue) (number : LegId) (leg : Leg) (result : Result Unit ReplyFault) (new : PipelineValue) : Type 0 where
  pub sends : Sends old.connection leg result new.connection
  pub legs : new.legs ≡ numbers_sent old.legs number result

-- a piece comes: the oldest legs have these replies, each its own
pub record Lands (old : PipelineValue) (piece : List ℕ) (landed : List Landed) (result : Result Unit ReplyFault) (new : PipelineValue) : Type 0 where
  pub receives : Receives old.connection piece (map reply_of landed) result new.connection
  pub legs : old.legs ≡ map leg_of landed ++ new.legs

abbrev pub LosesFrom : Connection → List LegId → Option LegId → List LegId → Type 0
LosesFrom (Open legs held) numbers found left = (found ≡ None) × (left ≡ numbers)
LosesFrom Closed numbers None left = (numbers ≡ []) × (left ≡ [])
LosesFrom Closed numbers (Some number) left = numbers ≡ number ∷ left

-- the oldest leg without a reply, where the connection is closed
pub record Loses (old : PipelineValue) (found : Option LegId) (new : PipelineValue) : Type 0 where
  pub loses : LosesFrom old.connection old.legs found new.legs
  pub connection : new.connection ≡ old.connection

abbrev pub with_reply : LegId → Reply → Landed
with_reply leg reply = record { leg = leg; reply = reply }

-- the oldest leg has the reply; only private functions speak of this and of the next
pub record LandsOne (numbers : List LegId) (reply : Reply) (before : List Landed) (left : List LegId) (after : List Landed) : Type 0 where
  pub leg : LegId
  pub legs : numbers ≡ leg ∷ left
  pub landed : after ≡ before ++ with_reply leg reply ∷ []

pub record LandsAll (numbers : List LegId) (replies : List Reply) (before : List Landed) (left : List LegId) (after : List Landed) : Type 0 where
  pub more : List Landed
  pub landed : after ≡ before ++ more
  pub legs : numbers ≡ map leg_of more ++ left
  pub replies_are : map (λ l. l.reply) more ≡ replies
