use Rattle.std.proofs.Common.{◌++◌, ap, ◌∙◌}
use Rattle.std.specs.Prelude.{slice_index}
use Rattle.mcv_route.specs.View.{view}
use Rattle.mcv_rules.specs.Arrivals.{known_at, outcome_in}
use Rattle.mcv_rules.specs.PlanInMemory.{sent}
use Rattle.mcv_rules.proofs.StatusOfReply.{launched_called}
use Rattle.mcv_rules.proofs.eval.Eval.launched.Goals as goal

-- the table knows what the list's history does, and the plan serves the route at that
pub returns : goal.returns
returns c =
    let e = c.self.inside in
    c.in_ok-send.ensures.legs
    ∙ ap (λ ls. ls ++ (sent (slice_index e.choice.now) (outcome_in (known_at c.known.result.now)) e.plan).legs) c.new-found.ensures.items
    ∙ launched_called c.args.self.now (view e.route.now) e.asked e.choice.now e.plan c.known.result.now c.args.outcomes.now.answered.now c.self.view_is c.self.invariant.0 c.self.invariant.1 c.known.ensures
