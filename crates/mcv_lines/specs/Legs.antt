-- The legs in flight over an open connection to a server (own).
-- Legs 4 and 7 are in flight, a get of a and one of b, and `END` CR LF comes: leg 4 arrives with a miss, and leg 7 is in flight.
use Rattle.std.specs.Prelude.{◌≡◌, ◌⊎◌, ◌++◌, ℕ, Bool, true, false, List, [], ◌∷◌, length, drop, map, Option, None, Result, Ok, Err, IfErr, IfOk}
use Rattle.std.specs.declared.time.Instant.{Instant}
use Rattle.mcv_base.specs.declared.request.LegId.{LegId}
use Rattle.mcv_base.specs.declared.request.ServerId.{ServerId}
use Rattle.mcv_base.specs.Reply.{reply_value}
use Rattle.mcv_pipeline.specs.declared.landed.Landed.{Landed}
use Rattle.mcv_reply.specs.Replies.{Closed}
use Rattle.mcv_turn.specs.declared.arrival.Arrival.{Arrival}
use Rattle.mcv_turn.specs.declared.arrival.NoReply.TheVariants.{Lost}
use Rattle.mcv_turn.specs.declared.flight.Flight.{Flight}
use Rattle.mcv_upstream.specs.Upstream.{unused}
use Rattle.mcv_lines.specs.Channel.{ChannelValue, ReadsOf, SendsOver, request_text}
use Rattle.mcv_lines.specs.Lost.{again_of, count_unwritten, lost_of, taken_for, taken_unwritten}
use Rattle.mcv_lines.specs.declared.loss.Loss.{Loss}
use Rattle.mcv_lines.specs.declared.sent.Sent.{Sent}
use Rattle.mcv_lines.specs.declared.took.Heard.{Heard}
use Rattle.mcv_lines.specs.declared.took.Heard.TheVariants as heard

-- ---- the legs in flight

abbrev pub number_of : Sent → ℕ
number_of one = one.flight.leg.0

abbrev pub leg_number : LegId → ℕ
leg_number leg = leg.0

abbrev pub landed_number : Landed → ℕ
landed_number landed = landed.leg.0

-- they are those of the connection, in their order
abbrev pub AreInFlight : List Sent → ChannelValue → Type 0
AreInFlight sent channel = map number_of sent ≡ map leg_number channel.carrier.legs.legs

-- the length that is noted of it is that of its text
abbrev pub HasLength : Sent → Type 0
HasLength s = s.length ≡ length (request_text s.flight.request)

-- ---- over an open connection

-- a leg lands with its own reply; where there is no memory for that it is lost
abbrev pub IsArrival : ServerId → Landed → Arrival → Type 0
IsArrival server landed arrival = (arrival.server ≡ server) × (arrival.leg ≡ landed.leg) × IfOk arrival.reply (λ r. r ≡ reply_value landed.reply) × IfErr arrival.reply (λ why. why ≡ Lost)

abbrev pub AreArrivals : ServerId → List Landed → List Arrival → Type 0
AreArrivals server [] [] = Unit {0}
AreArrivals server [] (a ∷ arrivals) = ⊥
AreArrivals server (l ∷ landed) [] = ⊥
AreArrivals server (l ∷ landed) (a ∷ arrivals) = IsArrival server l a × AreArrivals server landed arrivals

-- these legs have landed one after the other; only private functions speak of this
pub record LandLegs (server : ServerId) (sent : List Sent) (landed : List Landed) (before : List Arrival) (left : List Sent) (after : List Arrival) : Type 0 where
  pub more : List Arrival
  pub behind : after ≡ before ++ more
  pub arrive : AreArrivals server landed more
  pub still : left ≡ drop (length landed) sent

-- nothing was sent over this connection, which holds this and has that left
pub record IsUnused (given left : Option (List ℕ)) (sent : List Sent) (channel : ChannelValue) : Type 0 where
  pub none : sent ≡ []
  pub fresh : channel ≡ record { carrier = unused; ends = record { given = given; left = left }; is_kept = false; has_begun = false; unwritten = 0 }

-- a leg is in flight behind the others, and its text is to be written behind theirs; or nothing changes
abbrev pub SendsFlight : Flight → Option Instant → Bool → List Sent → ChannelValue → Result (Unit {0}) Flight → List Sent → ChannelValue → Type 0
SendsFlight flight now is_again sent channel (Ok done) then_sent then_channel =
    (then_sent ≡ sent ++ record { flight = flight; at = now; is_again = is_again; length = length (request_text flight.request) } ∷ []) × SendsOver channel flight.leg flight.request (Ok tt) then_channel
SendsFlight flight now is_again sent channel (Err back) then_sent then_channel = (back ≡ flight) × (then_sent ≡ sent) × (then_channel ≡ channel)

-- a piece was read, and these of the oldest legs landed with it and are no longer in flight; or nothing was read where the connection is closed or there was no memory
pub record HearsPiece (server : ServerId) (room : List ℕ) (sent : List Sent) (channel : ChannelValue) (result : Heard) (arrivals : List Arrival) (then_sent : List Sent) (then_channel : ChannelValue) : Type 0 where
  pub landed : List Landed
  pub gone : List Sent
  pub reads : ReadsOf channel room result landed then_channel
  pub legs : sent ≡ gone ++ then_sent
  pub own : map number_of gone ≡ map landed_number landed
  pub arrive : AreArrivals server landed arrivals

pub record HearsNone (sent : List Sent) (channel : ChannelValue) (result : Heard) (arrivals : List Arrival) (then_sent : List Sent) (then_channel : ChannelValue) : Type 0 where
  pub faulty : result ≡ heard.Faulty
  pub none : arrivals ≡ []
  pub still : then_sent ≡ sent
  pub same : then_channel ≡ channel

abbrev pub Hears : ServerId → List ℕ → List Sent → ChannelValue → Heard → List Arrival → List Sent → ChannelValue → Type 0
Hears server room sent channel result arrivals then_sent then_channel =
    HearsPiece server room sent channel result arrivals then_sent then_channel ⊎ HearsNone sent channel result arrivals then_sent then_channel

abbrev pub closed : ChannelValue → ChannelValue
closed channel = record channel { carrier = record { legs = record channel.carrier.legs { connection = Closed }; output = [] } }

-- how many of the newest go again because no byte of them was written
abbrev pub unwritten_of : Loss → List Sent → ChannelValue → ℕ
unwritten_of loss sent channel = taken_unwritten loss channel.is_kept (count_unwritten channel.unwritten sent)

-- those in flight over a connection that is lost so: some are to be sent once more, and the others are reported
pub record LosesLegs (server : ServerId) (loss : Loss) (sent : List Sent) (channel : ChannelValue) (arrivals : List Arrival) (again : List Flight) (then_arrivals : List Arrival) (then_again : List Flight) : Type 0 where
  pub reported : then_arrivals ≡ arrivals ++ lost_of server (taken_for loss channel.is_kept channel.has_begun) (unwritten_of loss sent channel) true sent
  pub sent_again : then_again ≡ again ++ again_of (taken_for loss channel.is_kept channel.has_begun) (unwritten_of loss sent channel) sent

-- there was no memory to say so: all are in flight still, over a closed connection
pub record StillFlying (sent : List Sent) (channel : ChannelValue) (arrivals : List Arrival) (again : List Flight) (then_sent : List Sent) (then_channel : ChannelValue) (then_arrivals : List Arrival) (then_again : List Flight) : Type 0 where
  pub none_reported : then_arrivals ≡ arrivals
  pub none_again : then_again ≡ again
  pub still : then_sent ≡ sent
  pub shut : then_channel ≡ closed channel

abbrev pub since_of : List Sent → Option Instant
since_of [] = None
since_of (one ∷ sent) = one.at
