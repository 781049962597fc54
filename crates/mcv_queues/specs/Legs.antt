-- Legs and their states.
use Rattle.std.specs.Prelude.{◌≡◌, ◌&&◌, not, ℕ, Bool, true, false, Option, Some, None, nat_eq, option_map}
use Rattle.mcv_queues.specs.declared.leg.Leg.{Leg}
use Rattle.mcv_queues.specs.declared.leg.State.{State}
use Rattle.mcv_queues.specs.declared.leg.State.TheVariants.{Waiting, Sent, Held, Refused, InSpool, InReplay}
use Rattle.mcv_queues.specs.Numbers.{put}

-- a leg in this state is in flight
abbrev pub is_flight : State → Bool
is_flight Waiting = false
is_flight Sent = true
is_flight Held = false
is_flight Refused = false
is_flight InSpool = false
is_flight InReplay = true

-- a leg in this state waits to be sent
abbrev pub is_waiting : State → Bool
is_waiting Waiting = true
is_waiting Sent = false
is_waiting Held = false
is_waiting Refused = false
is_waiting InSpool = false
is_waiting InReplay = false

-- the leg waits for this server
abbrev pub waits_for : {T : Type 0} → ℕ → Option (Leg T) → Bool
waits_for s None = false
waits_for s (Some l) = nat_eq l.server.0 s && is_waiting l.state

-- the leg is in flight
abbrev pub is_in_flight : {T : Type 0} → Option (Leg T) → Bool
is_in_flight None = false
is_in_flight (Some l) = is_flight l.state

-- the leg is in flight to this server
abbrev pub is_in_flight_to : {T : Type 0} → ℕ → Option (Leg T) → Bool
is_in_flight_to s None = false
is_in_flight_to s (Some l) = nat_eq l.server.0 s && is_flight l.state

-- the server of a leg, and its state
abbrev pub server_and_state : {T : Type 0} → Leg T → ℕ × State
server_and_state l = (l.server.0, l.state)

-- the leg was sent to this server
abbrev pub IsSentTo : {T : Type 0} → ℕ → Option (Leg T) → Type 0
IsSentTo s leg = option_map server_and_state leg ≡ Some (s, Sent)

-- the leg is one of this server and not in flight
abbrev pub rests_at : {T : Type 0} → ℕ → Option (Leg T) → Bool
rests_at s None = false
rests_at s (Some l) = nat_eq l.server.0 s && not (is_flight l.state)

abbrev pub leg_content : {T : Type 0} → Leg T → T
leg_content l = l.content

abbrev pub server_of : {T : Type 0} → Option (Leg T) → ℕ
server_of None = 0
server_of (Some l) = l.server.0

abbrev pub in_state : {T : Type 0} → State → Leg T → Leg T
in_state state l = record { server = l.server; state = state; «record» = l.«record»; content = l.content }

-- the legs, the one at this number in this state, if it is there
abbrev pub with_state : {T : Type 0} → (ℕ → Option (Leg T)) → ℕ → State → ℕ → Option (Leg T)
with_state legs n state = put legs n (option_map (in_state state) (legs n))

-- the leg with this number of its record in the spool
abbrev pub recorded_as : {T : Type 0} → ℕ → Leg T → Leg T
recorded_as number l = record { server = l.server; state = l.state; «record» = Some number; content = l.content }

-- the leg in the spool, where its record has this number
abbrev pub stored_as : {T : Type 0} → ℕ → Leg T → Leg T
stored_as number l = recorded_as number (in_state InSpool l)

-- the legs, the one at n stored as the record of this number, if it is there
abbrev pub with_stored : {T : Type 0} → (ℕ → Option (Leg T)) → ℕ → ℕ → ℕ → Option (Leg T)
with_stored legs n number = put legs n (option_map (stored_as number) (legs n))

-- the legs, the one at n with this number of its record, if it is there
abbrev pub with_record : {T : Type 0} → (ℕ → Option (Leg T)) → ℕ → ℕ → ℕ → Option (Leg T)
with_record legs n number = put legs n (option_map (recorded_as number) (legs n))

abbrev pub containing : {T : Type 0} → T → Leg T → Leg T
containing content l = record { server = l.server; state = l.state; «record» = l.«record»; content = content }

-- the legs, the one at this number with this content, if it is there
abbrev pub with_content : {T : Type 0} → (ℕ → Option (Leg T)) → ℕ → T → ℕ → Option (Leg T)
with_content legs n content = put legs n (option_map (containing content) (legs n))
