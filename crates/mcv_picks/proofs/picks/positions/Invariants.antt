use Rattle.std.proofs.Common.{◌≡◌, map, take}
use Rattle.mcv_picks.specs.Picks.{borrowed}
use Rattle.mcv_picks.proofs.picks.positions.Given as goal

abbrev pub invariant-loop-leg : goal.invariant-loop-leg
invariant-loop-leg l = l.positions.items ≡ map (λ d. d.position) (map borrowed (take l.leg-index l.legs))
