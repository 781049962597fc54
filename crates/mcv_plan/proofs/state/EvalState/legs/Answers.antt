use Rattle.std.proofs.Common.{◌∙◌, ap, sym, length}
use Rattle.mcv_plan.specs.View.{view}
use Rattle.mcv_plan.proofs.PartsAreLocal.{entries_plan}
use Rattle.mcv_plan.proofs.state.EvalState.legs.Goals as goal

pub returns : goal.returns
returns c = c.args.self.now.counted ∙ ap length (sym (entries_plan (view c.args.self.now.course)))
