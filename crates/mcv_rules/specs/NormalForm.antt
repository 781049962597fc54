-- The normal form of a plan in memory (own).
use Rattle.std.specs.Prelude.{ℕ, List, [], ◌∷◌, fold, map}
use Rattle.mcv_base.specs.Reply.{fixed_value, outcome_of}
use Rattle.mcv_base.specs.declared.reply.Outcome.TheVariants.{Error}
use Rattle.mcv_route.specs.Children.{together}
use Rattle.mcv_rules.specs.Plan as whole
use Rattle.mcv_rules.specs.Plan.{Leg}
use Rattle.mcv_rules.specs.declared.arrival.After.{After}
use Rattle.mcv_rules.specs.declared.arrival.After.TheVariants as after
use Rattle.mcv_rules.specs.declared.plan.Plan.{Plan}
use Rattle.mcv_rules.specs.declared.plan.Plan.TheFolds.{fold-Plan}
use Rattle.mcv_rules.specs.declared.plan.Plan.TheOpen.{Plan-F}
use Rattle.mcv_rules.specs.declared.plan.PlannedLeg.{PlannedLeg}

-- a leg of the plan
abbrev pub leg_of : PlannedLeg → Leg
leg_of l = record { position = l.position; symbol = l.symbol; servers = map (λ s. s.0) l.servers.value.items; op = l.op; mark = l.mark }

-- a part of a plan: a plan of its own, or a shadow of what it is beside
pub data Part : Type 0 where
  part : whole.Plan → Part
  shade : (symbol first last : ℕ) → whole.Plan → Part

abbrev pub beside : whole.Plan → Part → whole.Plan
beside t (part u) = whole.Beside t u
beside t (shade s a b u) = whole.Shadowed s a b t u

-- a shadow is beside what it shadows, and nowhere else; by itself it would be beside an error
abbrev pub alone : Part → whole.Plan
alone (part t) = t
alone (shade s a b t) = beside (whole.Reply Error) (shade s a b t)

-- the first, and beside it the others
abbrev pub led_by : List Part → whole.Plan
led_by [] = whole.Reply Error
led_by (p ∷ ps) = fold beside (alone p) ps

-- a search among two
abbrev pub in_turn : After → whole.Plan → whole.Plan → whole.Plan
in_turn after.Error t u = whole.OnError t u
in_turn after.Miss t u = whole.OnMiss t u

-- all at once
abbrev pub all_of : List whole.Plan → whole.Plan
all_of ts = together whole.Both (whole.Reply Error) ts

-- a search
abbrev pub turns_of : After → List whole.Plan → whole.Plan
turns_of w ts = together (in_turn w) (whole.Reply Error) ts

abbrev pub part_step : Plan-F Part → Part
part_step (Plan-F.Send l) = part (whole.Send (leg_of l))
part_step (Plan-F.Reply f) = part (whole.Reply (outcome_of (fixed_value f)))
part_step (Plan-F.All plans) = part (all_of (map alone plans.items))
part_step (Plan-F.Beside plans) = part (led_by plans.items)
part_step (Plan-F.InTurn w plans) = part (turns_of w (map alone plans.items))
part_step (Plan-F.OnHit first second) = part (whole.OnHit (alone first.value) (alone second.value))
part_step (Plan-F.Shadowed symbol first last target) = shade symbol first last (alone target.value)

-- what the plan in memory is
abbrev pub part_of : Plan → Part
part_of = fold-Plan Part part_step

-- its normal form
abbrev pub whole_of : Plan → whole.Plan
whole_of p = alone (part_of p)
