-- The events of a core, on its rows: what each changes, and which move of the world it is (own).
use Rattle.std.specs.Prelude.{◌≡◌, ℕ, suc, ◌+◌, true, false, ◌&&◌, List, Option, Some, None, cond, filter, length, is_some}
use Rattle.mcv_base.specs.declared.operation.Op.{Op}
use Rattle.mcv_base.specs.declared.reply.FixedReply.TheVariants.{Lost}
use Rattle.mcv_base.specs.declared.request.Request.{Request}
use Rattle.mcv_base.specs.Reply.{ReplyValue, not_found, fixed_value}
use Rattle.mcv_route.specs.declared.launch.Launch.{Launch}
use Rattle.mcv_route.specs.Routes.{RoutesValue}
use Rattle.mcv_world.specs.World.{Spooled, Call, reply_of, is_counted_delete, put}
use Rattle.mcv_world.specs.Moves.{Move, Began, Answered, WasSpooled, WasRefused, WasPerformed, EraBegan, Taken, counted_as, is_error_reply, has_no_outcome, is_move, is_other_era, new_call, with_taken, after}
use Rattle.mcv_world.specs.LiveWorld.{has_ended, live_of}
use Rattle.mcv_events.specs.Entries.{IsLaidOut, is_launched}
use Rattle.mcv_events.specs.Rows.{State, Sent, Held, InSpool, LegRow, CallRow, Rows, leg_state, leg_of, world_of, is_unanswered, IsCore, numbered, queued_rows, recorded_rows, with_leg_row}

-- the leg's call records this reply of it, where it runs and has no outcome for the leg
abbrev pub recorded_rows_if : RoutesValue → Rows → LegRow → ReplyValue → ℕ → Option CallRow → Rows
recorded_rows_if r w s x k None = w
recorded_rows_if r w s x k (Some c) = cond (has_no_outcome (leg_of s) c.call) (recorded_rows r w k c s.launch.position x) w

abbrev pub recorded_rows_for : RoutesValue → Rows → LegRow → ReplyValue → Option ℕ → Rows
recorded_rows_for r w s x None = w
recorded_rows_for r w s x (Some k) = recorded_rows_if r w s x k (w.calls k)

abbrev pub in_state : LegRow → State → LegRow
in_state s t = record s { state = t }

-- ---- what each event changes

-- the leg's row goes, and its call records the reply
abbrev pub answered_rows : RoutesValue → Rows → ℕ → LegRow → ReplyValue → Rows
answered_rows r w n s x = recorded_rows_for r (with_leg_row w n None) s (counted_as s.launch.op x) s.call

-- the leg is in the spool, and its call records NOT_FOUND
abbrev pub spooled_rows : RoutesValue → Rows → ℕ → LegRow → Rows
spooled_rows r w n s = recorded_rows_for r (with_leg_row w n (Some (in_state s InSpool))) s not_found s.call

-- the leg stays, and its call records an error
abbrev pub refused_rows : RoutesValue → Rows → LegRow → Rows
refused_rows r w s = recorded_rows_for r w s (fixed_value Lost) s.call

abbrev pub new_row : RoutesValue → Rows → Call → Option Request → List Launch → CallRow
new_row r w call request es = record { call = call; request = request; entries = es; legs = numbered (is_launched r call) w.next_leg 0 es (λ e. None) }

-- a call with these entries is added, for what its client asked, and what it launches waits
abbrev pub began_rows : RoutesValue → Rows → Call → Option Request → List Launch → Rows
began_rows r w call request es = record {
  calls = put w.calls w.next_call (Some (new_row r w call request es));
  legs = queued_rows (is_launched r call) w.next_call (record { rest = call.rest; request = request }) w.next_leg 0 es w.legs;
  since = w.since;
  next_call = suc w.next_call;
  next_leg = w.next_leg + length (filter (is_launched r call) es);
}

-- the call's reply is taken, and it goes if it has ended
abbrev pub taken_rows : RoutesValue → Rows → ℕ → CallRow → Rows
taken_rows r w k c = record w { calls = put w.calls k (cond (has_ended r (with_taken c.call)) None (Some (record c { call = with_taken c.call }))) }

-- ---- each event is its move

-- from the old rows to the new ones: there is such a move of the world that the old rows keep, the new rows keep what is
-- left of the world after it, and what holds of a core's rows holds of them
pub record Moves (r : RoutesValue) (old new : Rows) (m : Move) : Type 0 where
  pub is : is_move r (world_of old) m ≡ true
  pub moves : world_of new ≡ live_of r (after r (world_of old) m)
  pub core : IsCore r new

abbrev pub BeganMoves : Type 0
BeganMoves =
    (r : RoutesValue) (w : Rows) (op : Op) (route : ℕ) (rest choice : List ℕ) (request : Option Request) (es : List Launch) → IsCore r w → IsLaidOut r (new_call (world_of w) op route rest choice) es
    → Moves r w (began_rows r w (new_call (world_of w) op route rest choice) request es) (Began op route rest choice)

-- a Sent leg is answered; a counted delete leg only without an error
abbrev pub AnsweredMoves : Type 0
AnsweredMoves =
    (r : RoutesValue) (w : Rows) (n : ℕ) (s : LegRow) (x : ReplyValue) → IsCore r w → w.legs n ≡ Some s → s.state ≡ Sent
    → (is_counted_delete (leg_of s) && is_error_reply (counted_as s.launch.op x)) ≡ false → Moves r w (answered_rows r w n s x) (Answered n x)

abbrev pub SpooledMoves : Type 0
SpooledMoves = (r : RoutesValue) (w : Rows) (n : ℕ) (s : LegRow) → IsCore r w → w.legs n ≡ Some s → s.state ≡ Held → Moves r w (spooled_rows r w n s) (WasSpooled n)

-- where the leg's call runs and has no outcome for it; else the refusal is no move
abbrev pub RefusedMoves : Type 0
RefusedMoves =
    (r : RoutesValue) (w : Rows) (n : ℕ) (s : LegRow) (k : ℕ) (c : CallRow) → IsCore r w → w.legs n ≡ Some s → s.state ≡ Held → s.call ≡ Some k → w.calls k ≡ Some c
    → has_no_outcome (leg_of s) c.call ≡ true → Moves r w (refused_rows r w s) (WasRefused n)

abbrev pub PerformedMoves : Type 0
PerformedMoves = (r : RoutesValue) (w : Rows) (n : ℕ) (s : LegRow) → IsCore r w → w.legs n ≡ Some s → leg_state s.state ≡ Spooled → Moves r w (with_leg_row w n None) (WasPerformed n)

-- another era begins
abbrev pub EraMoves : Type 0
EraMoves = (r : RoutesValue) (w : Rows) (since : Option ℕ) → IsCore r w → is_other_era w.since since ≡ true → Moves r w (record w { since = since }) (EraBegan since)

abbrev pub TakenMoves : Type 0
TakenMoves =
    (r : RoutesValue) (w : Rows) (k : ℕ) (c : CallRow) → IsCore r w → w.calls k ≡ Some c → c.call.taken ≡ false → is_some (reply_of r c.call) ≡ true
    → Moves r w (taken_rows r w k c) (Taken k)

-- ---- or leaves the world as it is

-- where a row's state changes and its leg's doesn't: in each of Waiting, Sent and Held the leg is Queued, in InSpool and InReplay Spooled
abbrev pub StatesAreNoMoves : Type 0
StatesAreNoMoves =
    (w : Rows) (n : ℕ) (s : LegRow) (t : State) → w.legs n ≡ Some s → leg_state t ≡ leg_state s.state → world_of (with_leg_row w n (Some (in_state s t))) ≡ world_of w

-- such a change keeps what holds of a core's rows: Waiting to Sent, Sent to Held for a counted delete leg, InSpool to InReplay and back
abbrev pub StatesKeepCores : Type 0
StatesKeepCores =
    (r : RoutesValue) (w : Rows) (n : ℕ) (s : LegRow) (t : State) → IsCore r w → w.legs n ≡ Some s → (is_unanswered t ≡ true → is_unanswered s.state ≡ true)
    → (is_unanswered t ≡ false → is_counted_delete (leg_of s) ≡ true) → IsCore r (with_leg_row w n (Some (in_state s t)))
