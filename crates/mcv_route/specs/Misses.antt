-- Which operations are asked on after a miss (mcrouter's wiki, List of route handles: MissFailoverRoute, WarmUpRoute).
use Rattle.std.specs.Prelude.{Bool}
use Rattle.mcv_base.specs.declared.operation.Op.{Op}
use Rattle.mcv_base.specs.Operation.{is_reading}

-- what a MissFailoverRoute asks its children in turn; any other operation goes to the first child alone
abbrev pub fails_over_on_miss : Op → Bool
fails_over_on_miss op = is_reading op

-- what a WarmUpRoute asks warm where cold has missed; any other operation goes to cold alone
abbrev pub is_warmed_up : Op → Bool
is_warmed_up op = is_reading op
