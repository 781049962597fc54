use Rattle.std.proofs.Common.{subst}
use Rattle.serde_json.specs.View.{view}
use Rattle.mcv_patch.specs.Child.{IsChild}
use Rattle.mcv_patch.proofs.Behind.{step_on}
use Rattle.mcv_patch.proofs.change.difference.Goals as goal

pub loop-preserved : goal.loop-preserved
loop-preserved c =
    let child = subst (IsChild c.loop.here) c.in-Behind.is c.in_ok-step.ensures in (
      step_on c.loop.path.items c.push.new.self.items c.in-Behind.step (view c.args.old.now) (view c.args.new.now) (view c.loop.here.old.now) (view c.loop.here.new.now) (view c.in-Behind.pair.old.now) (view c.in-Behind.pair.new.now) c.in_ok-push-in-Behind.ensures.items c.loop.invariant.0 child.0,
      child.1,
    )
