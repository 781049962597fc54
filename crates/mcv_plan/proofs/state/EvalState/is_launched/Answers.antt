use Rattle.std.proofs.Common.{◌∙◌, ap, sym}
use Rattle.mcv_plan.specs.Evaluation.{shape}
use Rattle.mcv_plan.specs.KnownOutcomes.{own_in}
use Rattle.mcv_plan.specs.State.{holds}
use Rattle.mcv_plan.specs.View.{view}
use Rattle.mcv_plan.proofs.OutcomesDecide.{launched_by_rules}
use Rattle.mcv_plan.proofs.PartsAreLocal.{sends_plan}
use Rattle.mcv_plan.proofs.state.EvalState.is_launched.Goals as goal

pub returns-clause-known : goal.returns-clause-known
returns-clause-known c = c.launches.ensures ∙ ap (holds c.args.entry) (sym (sends_plan (own_in c.args.outcomes.now) (view c.args.self.now.course)))

-- the definitions say so
pub returns-clause-rules : goal.returns-clause-rules
returns-clause-rules c t s choice ls past law legal are low =
    c.launches.ensures ∙ ap (holds c.args.entry) (sym (sends_plan (own_in c.args.outcomes.now) (view c.args.self.now.course)))
    ∙ launched_by_rules t s choice ls (shape c.args.self.now) c.args.outcomes.now past c.args.entry law legal are low
