-- The rows that a core keeps of a world: running calls with their entries, and legs that are queued or spooled (own).
use Rattle.std.specs.Prelude.{◌≡◌, ◌≢◌, ◌<◌, ◌≤◌, ℕ, suc, ◌+◌, Bool, true, false, List, [], ◌∷◌, Option, Some, None, cond, length, filter, option_map, is_some, slice_get}
use Rattle.mcv_base.specs.declared.reply.Outcome.{Outcome}
use Rattle.mcv_base.specs.declared.request.Request.{Request}
use Rattle.mcv_base.specs.Reply.{ReplyValue}
use Rattle.mcv_route.specs.declared.launch.Launch.{Launch}
use Rattle.mcv_route.specs.Outcomes.{outcomes}
use Rattle.mcv_route.specs.Routes.{RoutesValue}
use Rattle.mcv_world.specs.World.{LegState, Queued, Spooled, Call, Leg, World, history_of, launched_by, is_counted_delete, put}
use Rattle.mcv_world.specs.Moves.{is_one, has_no_outcome, with_reply, recorded_by}
use Rattle.mcv_world.specs.LiveWorld.{has_ended, live_of}
use Rattle.mcv_events.specs.Entries.{IsLaidOut, is_launched, is_due, has_leg_at}

-- the state of a leg that is queued or spooled
pub data State : Type 0 where
  -- for its turn at its server
  Waiting : State
  -- to its server, which hasn't answered yet
  Sent : State
  -- for the spool, since it was lost or answered with an error
  Held : State
  InSpool : State
  -- in the spool, and to its server again
  InReplay : State

pub record LegRow : Type 0 where
  pub call : Option ℕ
  -- its number among the entries of its call
  pub entry : ℕ
  pub launch : Launch
  pub rest : List ℕ
  -- what the client asked whose call launched it; None where the spool held it at the start
  pub request : Option Request
  pub state : State

pub record CallRow : Type 0 where
  pub call : Call
  -- what its client asked
  pub request : Option Request
  pub entries : List Launch
  -- of each entry the number of its leg, once it was launched
  pub legs : ℕ → Option ℕ

pub record Rows : Type 0 where
  pub calls : ℕ → Option CallRow
  pub legs : ℕ → Option LegRow
  pub since : Option ℕ
  pub next_call : ℕ
  pub next_leg : ℕ

-- ---- the world that the rows keep

abbrev pub leg_state : State → LegState
leg_state Waiting = Queued
leg_state Sent = Queued
leg_state Held = Queued
leg_state InSpool = Spooled
leg_state InReplay = Spooled

abbrev pub leg_of : LegRow → Leg
leg_of s = record { call = s.call; launch = s.launch; rest = s.rest; state = leg_state s.state }

abbrev pub world_of : Rows → World
world_of w = record { calls = λ k. option_map (λ c. c.call) (w.calls k); legs = λ n. option_map leg_of (w.legs n); since = w.since; next_call = w.next_call; next_leg = w.next_leg }

-- ---- what holds of a core's rows at every moment

-- the leg waits for its server, or for its answer
abbrev pub is_unanswered : State → Bool
is_unanswered Waiting = true
is_unanswered Sent = true
is_unanswered Held = false
is_unanswered InSpool = false
is_unanswered InReplay = false

-- the leg's call runs, and has no outcome for it
abbrev pub awaits : (ℕ → Option CallRow) → LegRow → Option ℕ → Bool
awaits calls s None = false
awaits calls s (Some k) = is_one (calls k) (λ c. has_no_outcome (leg_of s) c.call)

pub record IsCallRow (r : RoutesValue) (c : CallRow) : Type 0 where
  pub laid : IsLaidOut r c.call c.entries
  pub runs : has_ended r c.call ≡ false
  -- an entry has a leg exactly when it is launched
  pub linked : (e : ℕ) (l : Launch) → slice_get c.entries e ≡ Some l → is_some (c.legs e) ≡ is_launched r c.call l
  -- what has an outcome is launched
  pub closed : (p : List ℕ) (x : Outcome) → outcomes (history_of c.call.recorded) p ≡ Some x → has_leg_at (launched_by r c.call) p ≡ true

pub record IsCore (r : RoutesValue) (w : Rows) : Type 0 where
  pub calls_below : (k : ℕ) → w.next_call ≤ k → w.calls k ≡ None
  pub legs_below : (n : ℕ) → w.next_leg ≤ n → w.legs n ≡ None
  pub call : (k : ℕ) (c : CallRow) → w.calls k ≡ Some c → IsCallRow r c
  -- a leg of a running call is that of its entry
  pub own : (n : ℕ) (s : LegRow) (k : ℕ) (c : CallRow) → w.legs n ≡ Some s → s.call ≡ Some k → w.calls k ≡ Some c → (slice_get c.entries s.entry ≡ Some s.launch) × (c.legs s.entry ≡ Some n)
  -- an unanswered leg has a running call, and no outcome
  pub awaited : (n : ℕ) (s : LegRow) → w.legs n ≡ Some s → is_unanswered s.state ≡ true → awaits w.calls s s.call ≡ true
  -- any other leg is a counted delete
  pub counted : (n : ℕ) (s : LegRow) → w.legs n ≡ Some s → is_unanswered s.state ≡ false → is_counted_delete (leg_of s) ≡ true
  pub owner : (n : ℕ) (s : LegRow) (k : ℕ) → w.legs n ≡ Some s → s.call ≡ Some k → k < w.next_call

-- ---- a call records a reply

-- what the legs of a call take along
pub record Payload : Type 0 where
  pub rest : List ℕ
  pub request : Option Request

abbrev pub payload_of : CallRow → Payload
payload_of c = record { rest = c.call.rest; request = c.request }

abbrev pub waiting : ℕ → ℕ → Payload → Launch → LegRow
waiting k e load l = record { call = Some k; entry = e; launch = l; rest = load.rest; request = load.request; state = Waiting }

module _ (due : Launch → Bool) where
  -- the entries from e on that are due get the numbers of their legs, from n on
  abbrev pub numbered : ℕ → ℕ → List Launch → (ℕ → Option ℕ) → ℕ → Option ℕ
  numbered n e [] legs = legs
  numbered n e (l ∷ es) legs = cond (due l) (numbered (suc n) (suc e) es (put legs e (Some n))) (numbered n (suc e) es legs)

  -- and their legs wait
  abbrev pub queued_rows : ℕ → Payload → ℕ → ℕ → List Launch → (ℕ → Option LegRow) → ℕ → Option LegRow
  queued_rows k load n e [] rows = rows
  queued_rows k load n e (l ∷ es) rows = cond (due l) (queued_rows k load (suc n) (suc e) es (put rows n (Some (waiting k e load l)))) (queued_rows k load n (suc e) es rows)

abbrev pub recorded_row : RoutesValue → Rows → CallRow → List ℕ → ReplyValue → CallRow
recorded_row r w c p x = record { call = with_reply c.call p x; request = c.request; entries = c.entries; legs = numbered (is_due r c.call (with_reply c.call p x)) w.next_leg 0 c.entries c.legs }

-- the call records this reply of its leg at the position: what that launches waits, and the call goes if it has ended
abbrev pub recorded_rows : RoutesValue → Rows → ℕ → CallRow → List ℕ → ReplyValue → Rows
recorded_rows r w k c p x =
    let due = is_due r c.call (with_reply c.call p x) in
    record w {
      calls = put w.calls k (cond (has_ended r (with_reply c.call p x)) None (Some (recorded_row r w c p x)));
      legs = queued_rows due k (payload_of c) w.next_leg 0 c.entries w.legs;
      next_leg = w.next_leg + length (filter due c.entries);
    }

abbrev pub with_leg_row : Rows → ℕ → Option LegRow → Rows
with_leg_row w n s = record w { legs = put w.legs n s }

-- ---- laws

-- call k has launched its entry e, this leg, has no outcome for it, and no leg of the entry is unanswered any more
pub record CanRecord (r : RoutesValue) (w : Rows) (k : ℕ) (c : CallRow) (e : ℕ) (l : Launch) : Type 0 where
  pub there : w.calls k ≡ Some c
  pub entry : slice_get c.entries e ≡ Some l
  pub launched : is_some (c.legs e) ≡ true
  pub no_outcome : outcomes (history_of c.call.recorded) l.position ≡ None
  pub shut : (n : ℕ) (s : LegRow) → w.legs n ≡ Some s → s.call ≡ Some k → is_unanswered s.state ≡ true → s.entry ≢ e

-- the rows then keep what is left of the world in which the call records the same reply
abbrev pub RecordingIsRecorded : Type 0
RecordingIsRecorded =
    (r : RoutesValue) (w : Rows) (k : ℕ) (c : CallRow) (e : ℕ) (l : Launch) (x : ReplyValue) → IsCore r w → CanRecord r w k c e l
    → world_of (recorded_rows r w k c l.position x) ≡ live_of r (recorded_by r (world_of w) k c.call l.position x)

abbrev pub RecordingKeepsCores : Type 0
RecordingKeepsCores =
    (r : RoutesValue) (w : Rows) (k : ℕ) (c : CallRow) (e : ℕ) (l : Launch) (x : ReplyValue) → IsCore r w → CanRecord r w k c e l
    → IsCore r (recorded_rows r w k c l.position x)
