-- How many entries a core's calls, legs and eras may still write (own).
use Rattle.std.specs.Prelude.{ℕ, ◌+◌, ◌*◌, Bool, Option, Some, None, List, cond, filter, is_none, length, nat_eq, nat_lt}
use Rattle.mcv_pools.specs.Table.{numbered}
use Rattle.mcv_route.specs.declared.launch.Launch.{Launch}
use Rattle.mcv_route.specs.Eras.{breaks_of}
use Rattle.mcv_route.specs.Outcomes.{outcomes}
use Rattle.mcv_route.specs.Routes.{RoutesValue}
use Rattle.mcv_world.specs.World.{Call, history_of}
use Rattle.mcv_events.specs.Reservations.{unlaunched}
use Rattle.mcv_events.specs.Rows as rows
use Rattle.mcv_events.specs.Rows.{CallRow, LegRow, Rows}
use Rattle.mcv_events.specs.Sums.{sum_below}
use Rattle.mcv_core.specs.CoreView.{CoreView}
use Rattle.mcv_core.specs.declared.step.Change.{Change}
use Rattle.mcv_core.specs.declared.step.Change.TheVariants as changes

-- beside the outcome of its call, a queued leg may be spooled and then performed, and a spooled one performed
abbrev pub leg_may_write_in : rows.State → ℕ
leg_may_write_in rows.Waiting = 2
leg_may_write_in rows.Sent = 2
leg_may_write_in rows.Held = 2
leg_may_write_in rows.InSpool = 1
leg_may_write_in rows.InReplay = 1

abbrev pub leg_may_write : Option LegRow → ℕ
leg_may_write None = 0
leg_may_write (Some s) = leg_may_write_in s.state

-- the call has no outcome for the entry
abbrev pub is_open : Call → Launch → Bool
is_open call l = is_none (outcomes (history_of call.recorded) l.position)

-- the reply of a call may be taken, each entry may get its outcome, and what isn't launched yet may be spooled and performed
abbrev pub call_may_write : RoutesValue → Option CallRow → ℕ
call_may_write r None = 0
call_may_write r (Some c) = cond c.call.taken 0 1 + (length (filter (is_open c.call) c.entries) + 2 * unlaunched r c)

abbrev pub rows_may_write : RoutesValue → Rows → ℕ
rows_may_write r w = sum_below leg_may_write w.legs w.next_leg + sum_below (call_may_write r) w.calls w.next_call

-- the breaks of the routes, each once
abbrev pub breaks_once : RoutesValue → List ℕ
breaks_once r = numbered nat_eq (breaks_of r)

abbrev pub break_count : RoutesValue → ℕ
break_count r = length (breaks_once r)

-- those after the moment: each may begin an era
abbrev pub breaks_left : RoutesValue → ℕ → ℕ
breaks_left r moment = length (filter (λ b. nat_lt moment b) (breaks_once r))

unfoldable pub may_write : CoreView → ℕ
may_write v = rows_may_write v.routes v.rows + breaks_left v.routes v.moment

-- how many entries an event on a leg writes
abbrev pub written_by : Change → ℕ
written_by changes.Nothing = 0
written_by changes.Answered = 1
written_by changes.Spooled = 1
written_by changes.Refused = 1
written_by changes.Performed = 1
