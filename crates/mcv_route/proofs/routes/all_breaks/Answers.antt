use Rattle.mcv_route.proofs.HandleChildren.{entry-breaks-more}
use Rattle.mcv_route.proofs.routes.all_breaks.Goals as goal

pub loop-entry-preserved : goal.loop-entry-preserved
loop-entry-preserved c =
    entry-breaks-more c.args.entries.now c.loop-entry.entry-index c.entry-item.result c.loop-entry.moments.items c.push_breaks.new.moments.items c.loop-entry-test.true c.entry-item.is c.loop-entry.invariant c.in_ok-push_breaks.ensures
