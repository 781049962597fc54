-- How many legs are in flight to each server, and how many wait for it (own).
use Rattle.std.specs.Prelude.{◌≡◌, ◌≤◌, ◌+◌, ◌-◌, ◌&&◌, ℕ, Bool, true, false, List, Option, Some, None, cond, length, nat_eq}
use Rattle.mcv_queues.specs.Flights.{AreCounted}
use Rattle.mcv_events.specs.Rows as rows
use Rattle.mcv_events.specs.Rows.{LegRow, Rows}

-- one more to the server
abbrev pub one_more : (ℕ → ℕ) → ℕ → ℕ → ℕ
one_more flights server s = cond (nat_eq server s) (flights s + 1) (flights s)

-- or one less
abbrev pub one_less : (ℕ → ℕ) → ℕ → ℕ → ℕ
one_less flights server s = cond (nat_eq server s) (flights s - 1) (flights s)

-- no server has more in flight than may be
abbrev pub AreWithin : (flights : ℕ → ℕ) → (limit : ℕ) → Type 0
AreWithin flights limit = (server : ℕ) → flights server ≤ limit

-- ---- which legs are

-- sent, for the first time or from the spool
abbrev pub flies_in : rows.State → Bool
flies_in rows.Waiting = false
flies_in rows.Sent = true
flies_in rows.Held = false
flies_in rows.InSpool = false
flies_in rows.InReplay = true

abbrev pub flies_to : ℕ → Option LegRow → Bool
flies_to server None = false
flies_to server (Some s) = nat_eq s.launch.server.0 server && flies_in s.state

-- so many of the rows are in flight to the server
abbrev pub AreInFlight : (w : Rows) (server count : ℕ) → Type 0
AreInFlight w server count = AreCounted (flies_to server) w.legs count

-- ---- which wait

abbrev pub waits_in : rows.State → Bool
waits_in rows.Waiting = true
waits_in rows.Sent = false
waits_in rows.Held = false
waits_in rows.InSpool = false
waits_in rows.InReplay = false

abbrev pub waits_to : ℕ → Option LegRow → Bool
waits_to server None = false
waits_to server (Some s) = nat_eq s.launch.server.0 server && waits_in s.state

-- so many of the rows wait to be sent to the server
abbrev pub AreWaiting : (w : Rows) (server count : ℕ) → Type 0
AreWaiting w server count = AreCounted (waits_to server) w.legs count
