-- How many legs a route has for one operation, rest and era, whatever they answer and whatever the choice is.
use Rattle.std.specs.Prelude.{ℕ, ◌^◌, ◌-◌, map, length, min}
use Rattle.mcv_route.specs.Children.{joined}
use Rattle.mcv_route.specs.Situation.{Situation}
use Rattle.mcv_route.specs.Tree.{Tree, Trees}
use Rattle.mcv_rules.specs.Plans.{plan, plan_each}
use Rattle.mcv_rules.specs.Soundness.{positions}

abbrev pub legs_in : Tree → Situation → ℕ
legs_in t s = length (positions (plan t s))

-- those of each child, the first of which has number k, together
abbrev pub legs_each : ℕ → Trees → Situation → ℕ
legs_each k ts s = length (joined (map positions (plan_each k ts s)))

-- as a `usize`
abbrev pub capped : ℕ → ℕ
capped n = min n (2 ^ 64 - 1)
