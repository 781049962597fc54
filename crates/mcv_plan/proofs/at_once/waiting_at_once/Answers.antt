use Rattle.std.proofs.Common.{arith}
use Rattle.mcv_plan.specs.ReachedAnswers.{nothing}
use Rattle.mcv_plan.proofs.Waves.{reflects_next}
use Rattle.mcv_plan.proofs.WorstAtOnce.{waits_on}
use Rattle.mcv_plan.proofs.at_once.waiting_at_once.Goals as goal

pub loop-child-preserved : goal.loop-child-preserved
loop-child-preserved c =
    let here = c.loop-child.invariant in
    let cs = c.args.children.now in
    let i = c.loop-child.child-index in
    let p = c.child-item.result in
    record {
      waiting = λ s. waits_on cs i p c.loop-child.waiting c.missing-waiting.result _ c.reply_at_once.result c.loop-child-test.true c.child-item.is
          (c.reply_at_once.ensures (reflects_next nothing cs i p c.loop-child-test.true c.child-item.is s)) c.missing-waiting.ensures.value (here.waiting s);
      bound = omega (arith, here.bound, c.missing-waiting.ensures.bound);
    }
