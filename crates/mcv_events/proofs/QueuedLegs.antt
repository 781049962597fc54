-- How many legs are queued.
use Rattle.std.proofs.Common.{◌≡◌, cond, ℕ, suc, ◌+◌, Bool, true, false, List, [], ◌∷◌, length, Option, Some, ap, arith}
use Rattle.std.specs.Prelude.{filter}
use Rattle.mcv_route.specs.declared.launch.Launch.{Launch}
use Rattle.mcv_world.specs.World.{put}
use Rattle.mcv_events.specs.Entries.{is_launched, is_due}
use Rattle.mcv_world.specs.Moves.{with_reply}
use Rattle.mcv_events.specs.Rows.{LegRow, Payload, payload_of, waiting, queued_rows}
use Rattle.mcv_events.specs.Sums.{sum_below}
use Rattle.mcv_events.specs.QueuedLegs.{count_of, RecordingQueues, BeginningQueues, PuttingCounts}
use Rattle.mcv_world.proofs.Numbers.{put_same}
use Rattle.mcv_events.proofs.Sums.{sum_above, sum_put}

rows_counted : (due : Launch → Bool) (k : ℕ) (load : Payload) (n e : ℕ) (es : List Launch) (rows : ℕ → Option LegRow) → sum_below count_of (queued_rows due k load n e es rows) (n + length (filter due es)) ≡ sum_below count_of rows n + length (filter due es)
rows_counted due k load n e [] rows = let same : n + 0 ≡ n = omega arith in let t = ap (sum_below count_of rows) same in omega (arith, t)
rows_counted due k load n e (l ∷ es) rows =
    by_cases (due l) (rows_counted due k load (suc n) (suc e) es (put rows n (Some (waiting k e load l)))) (rows_counted due k load n (suc e) es rows)
  where
    by_cases : (b : Bool)
        → sum_below count_of (queued_rows due k load (suc n) (suc e) es (put rows n (Some (waiting k e load l)))) (suc n + length (filter due es)) ≡ sum_below count_of (put rows n (Some (waiting k e load l))) (suc n) + length (filter due es)
        → sum_below count_of (queued_rows due k load n (suc e) es rows) (n + length (filter due es)) ≡ sum_below count_of rows n + length (filter due es)
        → sum_below count_of (cond b (queued_rows due k load (suc n) (suc e) es (put rows n (Some (waiting k e load l)))) (queued_rows due k load n (suc e) es rows)) (n + length (cond b (l ∷ filter due es) (filter due es)))
        ≡ sum_below count_of rows n + length (cond b (l ∷ filter due es) (filter due es))
    by_cases true x y =
        let place : n + suc (length (filter due es)) ≡ suc n + length (filter due es) = omega arith in
        let here : count_of (put rows n (Some (waiting k e load l)) n) ≡ 1 = ap count_of (put_same rows n (Some (waiting k e load l))) in
        let below = sum_above count_of rows n (Some (waiting k e load l)) n (omega arith) in
        let moved = ap (sum_below count_of (queued_rows due k load (suc n) (suc e) es (put rows n (Some (waiting k e load l))))) place in
        omega (arith, x, here, below, moved)
    by_cases false x y = y

pub recording_queues : RecordingQueues
recording_queues r w k c p x = rows_counted (is_due r c.call (with_reply c.call p x)) k (payload_of c) w.next_leg 0 c.entries w.legs

pub beginning_queues : BeginningQueues
beginning_queues r w call request es = rows_counted (is_launched r call) w.next_call (record { rest = call.rest; request = request }) w.next_leg 0 es w.legs

pub putting_counts : PuttingCounts
putting_counts w n s low = sum_put count_of w.legs n s w.next_leg low
