-- How many legs are queued (own).
use Rattle.std.specs.Prelude.{◌≡◌, ◌<◌, ℕ, ◌+◌, List, Option, Some, None, length, filter}
use Rattle.mcv_base.specs.declared.request.Request.{Request}
use Rattle.mcv_base.specs.Reply.{ReplyValue}
use Rattle.mcv_route.specs.declared.launch.Launch.{Launch}
use Rattle.mcv_route.specs.Routes.{RoutesValue}
use Rattle.mcv_world.specs.World.{Call}
use Rattle.mcv_world.specs.Moves.{with_reply}
use Rattle.mcv_events.specs.Entries.{is_launched, is_due}
use Rattle.mcv_events.specs.Rows.{State, Waiting, Sent, Held, InSpool, InReplay, LegRow, CallRow, Rows, recorded_rows, with_leg_row}
use Rattle.mcv_events.specs.Events.{began_rows}
use Rattle.mcv_events.specs.Sums.{sum_below}

-- 1 in the states of a queued leg
abbrev pub count_in : State → ℕ
count_in Waiting = 1
count_in Sent = 1
count_in Held = 1
count_in InSpool = 0
count_in InReplay = 0

abbrev pub count_of : Option LegRow → ℕ
count_of None = 0
count_of (Some s) = count_in s.state

abbrev pub queued_legs : Rows → ℕ
queued_legs w = sum_below count_of w.legs w.next_leg

-- what a call launches is queued, when it begins
abbrev pub BeginningQueues : Type 0
BeginningQueues =
    (r : RoutesValue) (w : Rows) (call : Call) (request : Option Request) (es : List Launch)
    → queued_legs (began_rows r w call request es) ≡ queued_legs w + length (filter (is_launched r call) es)

-- and later
abbrev pub RecordingQueues : Type 0
RecordingQueues =
    (r : RoutesValue) (w : Rows) (k : ℕ) (c : CallRow) (p : List ℕ) (x : ReplyValue)
    → queued_legs (recorded_rows r w k c p x) ≡ queued_legs w + length (filter (is_due r c.call (with_reply c.call p x)) c.entries)

-- a leg's row changes or goes
abbrev pub PuttingCounts : Type 0
PuttingCounts = (w : Rows) (n : ℕ) (s : Option LegRow) → n < w.next_leg → queued_legs (with_leg_row w n s) + count_of (w.legs n) ≡ queued_legs w + count_of s
