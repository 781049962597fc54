-- What is left of a world once calls and legs that have ended are forgotten: all that a proxy has to keep (own).
use Rattle.std.specs.Prelude.{Bool, ◌&&◌, Option, Some, None, cond}
use Rattle.mcv_route.specs.Routes.{RoutesValue}
use Rattle.mcv_world.specs.World.{LegState, Queued, Performed, Spooled, Gone, Call, Leg, World, is_settled}

-- a call has ended once its reply was taken and no leg of it can still get an outcome
abbrev pub has_ended : RoutesValue → Call → Bool
has_ended r call = call.taken && is_settled r call

-- the call, if it runs
abbrev pub running : RoutesValue → Option Call → Option Call
running r None = None
running r (Some call) = cond (has_ended r call) None (Some call)

abbrev pub live_in : Leg → LegState → Option Leg
live_in s Queued = Some s
live_in s Performed = None
live_in s Spooled = Some s
live_in s Gone = None

-- the leg, if it is queued or spooled
abbrev pub live_leg : Option Leg → Option Leg
live_leg None = None
live_leg (Some s) = live_in s s.state

-- the running calls, the legs that are queued or spooled, the era and the next numbers
abbrev pub live_of : RoutesValue → World → World
live_of r w = record { calls = λ n. running r (w.calls n); legs = λ n. live_leg (w.legs n); since = w.since; next_call = w.next_call; next_leg = w.next_leg }
