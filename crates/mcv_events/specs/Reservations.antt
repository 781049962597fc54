-- How many legs the running calls may still launch: a call reserves them when it begins (own).
use Rattle.std.specs.Prelude.{◌≡◌, ◌≤◌, ℕ, ◌+◌, not, List, Option, Some, None, length, filter}
use Rattle.mcv_base.specs.declared.request.Request.{Request}
use Rattle.mcv_base.specs.Reply.{ReplyValue}
use Rattle.mcv_route.specs.declared.launch.Launch.{Launch}
use Rattle.mcv_route.specs.Routes.{RoutesValue}
use Rattle.mcv_world.specs.World.{Call}
use Rattle.mcv_world.specs.Moves.{with_reply}
use Rattle.mcv_events.specs.Entries.{is_launched, is_due}
use Rattle.mcv_events.specs.Rows.{CallRow, Rows, IsCore, CanRecord, recorded_rows}
use Rattle.mcv_events.specs.Events.{began_rows, taken_rows}
use Rattle.mcv_events.specs.Sums.{sum_below}

-- the entries that aren't launched
abbrev pub unlaunched : RoutesValue → CallRow → ℕ
unlaunched r c = length (filter (λ l. not (is_launched r c.call l)) c.entries)

abbrev pub unlaunched_of : RoutesValue → Option CallRow → ℕ
unlaunched_of r None = 0
unlaunched_of r (Some c) = unlaunched r c

-- the reservations of all running calls
abbrev pub reserved : RoutesValue → Rows → ℕ
reserved r w = sum_below (unlaunched_of r) w.calls w.next_call

-- a call that begins reserves its entries, and launches some of them
abbrev pub BeginningReserves : Type 0
BeginningReserves =
    (r : RoutesValue) (w : Rows) (call : Call) (request : Option Request) (es : List Launch) → reserved r (began_rows r w call request es) + length (filter (is_launched r call) es) ≡ reserved r w + length es

-- what a call launches later it had reserved; a call that ends gives the rest back
abbrev pub RecordingSpends : Type 0
RecordingSpends =
    (r : RoutesValue) (w : Rows) (k : ℕ) (c : CallRow) (e : ℕ) (l : Launch) (x : ReplyValue) → IsCore r w → CanRecord r w k c e l
    → reserved r (recorded_rows r w k c l.position x) + length (filter (is_due r c.call (with_reply c.call l.position x)) c.entries) ≤ reserved r w

-- nothing more is reserved when a reply is taken
abbrev pub TakingReserves : Type 0
TakingReserves = (r : RoutesValue) (w : Rows) (k : ℕ) (c : CallRow) → IsCore r w → w.calls k ≡ Some c → reserved r (taken_rows r w k c) ≤ reserved r w
