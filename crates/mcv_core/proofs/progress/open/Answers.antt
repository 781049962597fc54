use Rattle.std.proofs.Common.{◌≡◌, ◌∙◌, [], Result, Ok, Err, Vec, length, subst}
use Rattle.std.specs.Prelude.{IfOk, option_map, slice_index}
use Rattle.std.specs.declared.alloc.Global.{Global}
use Rattle.mcv_base.specs.declared.operation.Mark.TheVariants.{Plain}
use Rattle.mcv_plan.specs.declared.state.EvalState.{EvalState}
use Rattle.mcv_plan.specs.Entries.{legs_of}
use Rattle.mcv_plan.specs.Evaluation.{IsAfter, legs_count, shape}
use Rattle.mcv_plan.specs.Laws.{Evaluates}
use Rattle.mcv_plan.specs.State.{wave}
use Rattle.mcv_route.specs.declared.launch.Launch.{Launch}
use Rattle.mcv_route.specs.Outcomes.{Choice}
use Rattle.mcv_route.specs.Situation.{Situation, asked}
use Rattle.mcv_route.specs.Tree.{Tree}
use Rattle.mcv_route.specs.View.{view}
use Rattle.mcv_rules.specs.declared.plan.Plan.{Plan}
use Rattle.mcv_rules.specs.PlanInMemory.{Serves}
use Rattle.mcv_core.specs.CallProgress.{HasOpened}
use Rattle.mcv_core.proofs.PlannedLegs.{legs_are_planned}
use Rattle.mcv_core.proofs.StateFollowsOutcomes.{opened}
use Rattle.mcv_core.proofs.progress.open.Goals as goal

all_open : {E : Type 0} (r : Result (EvalState × Vec Launch Global) E) (plan : Plan) (t : Tree) (s : Situation) (c : Choice) → Serves plan t s
    → IfOk r (λ x. x.1.items ≡ legs_of c plan) → IfOk r (λ x. (u : Tree) (z : Situation) → Serves plan u z → Evaluates u z c x.1.items (shape x.0)) → IfOk r (λ x. legs_count x.0 ≡ length x.1.items) → IfOk r (λ x. IsAfter [] x.0) → IfOk r (λ x. x.0.fresh.items ≡ wave (shape x.0))
    → IfOk r (λ x. HasOpened t s c x.1.items x.0)
all_open (Ok x) plan t s c serves entries evaluates count begun fresh = opened t s c x.1.items x.0 (entries ∙ legs_are_planned c plan t s serves) (evaluates t s serves) count begun fresh
all_open (Err e) plan t s c serves entries evaluates count begun fresh = tt

pub returns : goal.returns
returns c =
    let serves : Serves c.in_ok-plan.plan (view c.args.route.now) (asked c.args.op c.args.rest.now (option_map (λ m. m.0) c.args.since)) =
    subst (λ p. Serves c.in_ok-plan.plan (view c.args.route.now) (record { op = c.args.op; rest = c.args.rest.now; since = option_map (λ m. m.0) c.args.since; mark = Plain; position = p })) c.root.ensures c.in_ok-plan.ensures in
    all_open c.new.result c.in_ok-plan.plan (view c.args.route.now) (asked c.args.op c.args.rest.now (option_map (λ m. m.0) c.args.since)) (slice_index c.args.choice.now) serves c.new.ensures.entries c.new.ensures.evaluates c.new.ensures.count
    c.new.ensures.begun c.new.ensures.fresh
