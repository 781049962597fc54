-- The pool of a leg in memory.
use Rattle.std.specs.Prelude.{map}
use Rattle.mcv_route.specs.Tree.{Pool}
use Rattle.mcv_rules.specs.declared.plan.PlannedLeg.{PlannedLeg}

-- the pool whose leg it is
abbrev pub pool_of : PlannedLeg → Pool
pool_of l = record { symbol = l.symbol; servers = map (λ s. s.0) l.servers.value.items }
