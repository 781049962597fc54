use Rattle.std.proofs.Common.{◌≡◌, map, take}
use Rattle.mcv_route.proofs.moments.moments_of.Given as goal

-- the moments so far are in the table
abbrev pub invariant-loop-moment : goal.invariant-loop-moment
invariant-loop-moment l = map (λ m. m.0) l.table.items ≡ take l.moment-index l.moments
