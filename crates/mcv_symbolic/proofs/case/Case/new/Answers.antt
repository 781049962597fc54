use Rattle.std.proofs.Common.{[], ap, option_map, subst}
use Rattle.mcv_base.specs.declared.operation.Mark.TheVariants.{Plain}
use Rattle.mcv_route.specs.View.{view}
use Rattle.mcv_rules.specs.PlanInMemory.{Serves}
use Rattle.mcv_rules.specs.NormalForm.{alone}
use Rattle.mcv_symbolic.proofs.case.Case.new.Goals as goal

pub invariant_of-result : goal.invariant_of-result
invariant_of-result c =
    let serves : Serves c.in_ok-plan.plan (view c.args.route.now) (record { op = c.args.op; rest = c.args.rest.now; since = option_map (λ m. m.0) c.args.since; mark = Plain; position = [] }) =
    subst (λ p. Serves c.in_ok-plan.plan (view c.args.route.now) (record { op = c.args.op; rest = c.args.rest.now; since = option_map (λ m. m.0) c.args.since; mark = Plain; position = p })) c.root.ensures c.in_ok-plan.ensures in
    ap alone serves.whole
