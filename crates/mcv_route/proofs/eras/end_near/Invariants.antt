use Rattle.std.proofs.Common.{◌-◌, ◌+◌, ◌<◌, ◌≤◌, ℕ}
use Rattle.mcv_route.specs.Eras.{IsNearEra}
use Rattle.mcv_route.proofs.eras.end_near.Given as goal

abbrev pub invariant-loop-last : goal.invariant-loop-last
invariant-loop-last l = (l.era ≤ l.last) × (l.last < l.count) × ((k : ℕ) → l.era ≤ k → k ≤ l.last → IsNearEra l.routes l.window l.era k)

abbrev pub decreases-loop-last : goal.decreases-loop-last
decreases-loop-last l = l.count - l.last
