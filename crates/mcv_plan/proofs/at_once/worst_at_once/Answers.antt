use Rattle.std.proofs.Common.{◌∙◌, ap, sym}
use Rattle.std.proofs.lemmas.List.{drop_all}
use Rattle.mcv_plan.specs.ReachedAnswers.{nothing}
use Rattle.mcv_plan.specs.State.{answered_each}
use Rattle.mcv_plan.specs.View.{seen}
use Rattle.mcv_plan.proofs.Waves.{reflects_next}
use Rattle.mcv_plan.proofs.WorstAtOnce.{worst_from, worst_on, worst_prevails}
use Rattle.mcv_plan.proofs.at_once.worst_at_once.Goals as goal

pub loop-child-preserved : goal.loop-child-preserved
loop-child-preserved c = λ s.
    let cs = c.args.children.now in
    let i = c.loop-child.child-index in
    let p = c.child-item.result in
    worst_on cs i p c.loop-child.worst c.worse-worst.result c.reply_at_once.result _ c.loop-child-test.true c.child-item.is
    (c.reply_at_once.ensures (reflects_next nothing cs i p c.loop-child-test.true c.child-item.is s)) c.worse-worst.ensures (c.loop-child.invariant s)

pub returns : goal.returns
returns c = λ s.
    let cs = c.args.children.now in
    let i = c.loop-child.child-index in
    ap (λ ds. worst_from c.loop-child.worst (answered_each nothing (seen ds))) (sym (drop_all i cs c.loop-child-test.false)) ∙ c.loop-child.invariant s ∙ worst_prevails (seen cs)
