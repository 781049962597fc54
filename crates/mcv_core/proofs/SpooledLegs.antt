-- How many legs are in the spool.
use Rattle.std.proofs.Common.{◌≡◌, cond, ℕ, suc, ◌+◌, Bool, true, false, List, [], ◌∷◌, length, Option, Some, ap, arith}
use Rattle.std.specs.Prelude.{filter}
use Rattle.mcv_route.specs.declared.launch.Launch.{Launch}
use Rattle.mcv_world.specs.World.{put}
use Rattle.mcv_world.proofs.Numbers.{put_same}
use Rattle.mcv_events.specs.Rows.{LegRow, Payload, waiting, queued_rows}
use Rattle.mcv_events.specs.Sums.{sum_below}
use Rattle.mcv_events.proofs.Sums.{sum_above}
use Rattle.mcv_core.specs.Soundness.{spooled_one}

-- what is launched isn't in the spool
pub spooled_stays : (due : Launch → Bool) (k : ℕ) (load : Payload) (n e : ℕ) (es : List Launch) (rows : ℕ → Option LegRow)
    → sum_below spooled_one (queued_rows due k load n e es rows) (n + length (filter due es)) ≡ sum_below spooled_one rows n
spooled_stays due k load n e [] rows = let same : n + 0 ≡ n = omega arith in ap (sum_below spooled_one rows) same
spooled_stays due k load n e (l ∷ es) rows =
    by_cases (due l) (spooled_stays due k load (suc n) (suc e) es (put rows n (Some (waiting k e load l)))) (spooled_stays due k load n (suc e) es rows)
  where
    by_cases : (b : Bool)
        → sum_below spooled_one (queued_rows due k load (suc n) (suc e) es (put rows n (Some (waiting k e load l)))) (suc n + length (filter due es)) ≡ sum_below spooled_one (put rows n (Some (waiting k e load l))) (suc n)
        → sum_below spooled_one (queued_rows due k load n (suc e) es rows) (n + length (filter due es)) ≡ sum_below spooled_one rows n
        → sum_below spooled_one (cond b (queued_rows due k load (suc n) (suc e) es (put rows n (Some (waiting k e load l)))) (queued_rows due k load n (suc e) es rows)) (n + length (cond b (l ∷ filter due es) (filter due es)))
        ≡ sum_below spooled_one rows n
    by_cases true x y =
        let place : n + suc (length (filter due es)) ≡ suc n + length (filter due es) = omega arith in
        let here : spooled_one (put rows n (Some (waiting k e load l)) n) ≡ 0 = ap spooled_one (put_same rows n (Some (waiting k e load l))) in
        let below = sum_above spooled_one rows n (Some (waiting k e load l)) n (omega arith) in
        let moved = ap (sum_below spooled_one (queued_rows due k load (suc n) (suc e) es (put rows n (Some (waiting k e load l))))) place in
        omega (arith, x, here, below, moved)
    by_cases false x y = y
