use Rattle.mcv_core.proofs.StateFollowsOutcomes.{fresh_on, tracked_on}
use Rattle.mcv_core.proofs.progress.advance.Goals as goal

pub returns-clause-tracked : goal.returns-clause-tracked
returns-clause-tracked c t s choice es past tracked can =
    tracked_on t s choice es past c.args.state.now c.advance.new.self c.args.entry c.args.outcome can c.advance.ensures.shape (c.advance.ensures.heard past) tracked

pub returns-clause-fresh : goal.returns-clause-fresh
returns-clause-fresh c t s choice es past tracked can =
    fresh_on t s choice es past c.args.state.now c.advance.new.self c.args.entry c.args.outcome can c.advance.ensures.shape (c.advance.ensures.fresh past) tracked
