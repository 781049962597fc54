-- The legs that a call can launch under its choice, in the order of their positions.
use Rattle.std.specs.Prelude.{ℕ, zero, suc, if◌then◌else◌, List, [], ◌∷◌, ◌++◌}
use Rattle.mcv_route.specs.declared.launch.Launch.{Launch}
use Rattle.mcv_route.specs.Children.{joined, is_within}
use Rattle.mcv_route.specs.Outcomes.{Choice}
use Rattle.mcv_rules.specs.PlanInMemory.{launch_of}
use Rattle.mcv_rules.specs.declared.plan.Plan.{Plan}
use Rattle.mcv_rules.specs.declared.plan.Plan.TheOpen.{Plan-F}
use Rattle.mcv_rules.specs.declared.plan.Plan.TheFolds.{fold-Plan}

abbrev pub legs_step : Choice → Plan-F (List Launch) → List Launch
legs_step c (Plan-F.Send l) = launch_of c l ∷ []
legs_step c (Plan-F.Reply f) = []
legs_step c (Plan-F.All plans) = joined plans.items
legs_step c (Plan-F.Beside plans) = joined plans.items
legs_step c (Plan-F.InTurn w plans) = joined plans.items
legs_step c (Plan-F.OnHit first after) = first.value ++ after.value
legs_step c (Plan-F.Shadowed symbol first last target) = if is_within (record { first = first; last = last }) (c symbol) then target.value else []

-- all legs of a plan under a choice, those of a shadow only where its range holds the index
abbrev pub legs_of : Choice → Plan → List Launch
legs_of c = fold-Plan (List Launch) (legs_step c)

-- the numbers from the first on, so many
abbrev pub numbers : ℕ → ℕ → List ℕ
numbers from zero = []
numbers from (suc n) = from ∷ numbers (suc from) n
