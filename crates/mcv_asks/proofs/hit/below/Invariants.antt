use Rattle.std.proofs.Common.{◌≡◌, ◌++◌, drop, map}
use Rattle.mcv_asks.specs.Hits.{answered_of, below, heard_of}
use Rattle.mcv_asks.proofs.hit.below.Given as goal

-- those found so far, and those to come
abbrev pub invariant-loop-leg : goal.invariant-loop-leg
invariant-loop-leg l = map answered_of l.found.items ++ below l.place (map heard_of (drop l.leg-index l.heard)) ≡ below l.place (map heard_of l.heard)
