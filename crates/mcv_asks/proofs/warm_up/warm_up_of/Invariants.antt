use Rattle.std.proofs.Common.{◌≡◌, drop}
use Rattle.mcv_route.specs.View.{view}
use Rattle.mcv_asks.specs.WarmUps.{warm_up_from, warm_up_of}
use Rattle.mcv_asks.proofs.warm_up.warm_up_of.Given as goal

-- none on the way so far
abbrev pub invariant-loop-depth : goal.invariant-loop-depth
invariant-loop-depth l = warm_up_from l.depth (view l.handle) (drop l.depth l.position) ≡ warm_up_of (view l.route) l.position
