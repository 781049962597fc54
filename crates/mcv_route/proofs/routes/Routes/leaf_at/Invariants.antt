use Rattle.std.proofs.Common.{◌≡◌, drop}
use Rattle.mcv_route.specs.Places.{tree_at}
use Rattle.mcv_route.specs.View.{view}
use Rattle.mcv_route.proofs.routes.Routes.leaf_at.Given as goal

-- what is at the rest of the position from here is what is at the position
abbrev pub invariant-loop-step : goal.invariant-loop-step
invariant-loop-step l = tree_at (view l.here) (drop l.step-index l.step-items) ≡ tree_at (view l.initial.here) l.step-items
