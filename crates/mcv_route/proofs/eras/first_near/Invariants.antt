use Rattle.std.proofs.Common.{◌-◌, ◌<◌, ◌≤◌, ℕ}
use Rattle.mcv_route.specs.Eras.{IsNearEra}
use Rattle.mcv_route.proofs.eras.first_near.Given as goal

abbrev pub invariant-loop-first : goal.invariant-loop-first
invariant-loop-first l = (l.first ≤ l.era) × ((k : ℕ) → l.first ≤ k → k ≤ l.era → IsNearEra l.routes l.window l.era k)

abbrev pub decreases-loop-first : goal.decreases-loop-first
decreases-loop-first l = l.first
