use Rattle.std.proofs.Common.{rules, ◌≡◌, ◌∷◌, ◌∙◌, ap, drop, sym, true, false, arith}
use Rattle.std.proofs.lemmas.List.{drop_all}
use Rattle.mcv_plan.specs.ReachedAnswers.{answer_from, goes_on_after, nothing}
use Rattle.mcv_plan.specs.State.{answers_each}
use Rattle.mcv_plan.specs.View.{seen}
use Rattle.mcv_plan.proofs.Views.{view-InTurn}
use Rattle.mcv_plan.proofs.PartsAreLocal.{turn_reflects}
use Rattle.mcv_plan.proofs.Waves.{answer_on, answer_stops, reflects_next, search_answers, steps_on}
use Rattle.mcv_plan.proofs.at_once.+at_once.Goals as goal

pub search_at_once-loop-child-preserved : goal.search_at_once-loop-child-preserved
search_at_once-loop-child-preserved t c =
    let here = c.loop-child.invariant in
    let others = c.in-Some.others.now in
    let i = c.loop-child.child-index in
    let p = c.child-item.result in
    let on : goes_on_after c.args.after c.loop-child.reply ≡ true = sym c.goes_on_after.ensures ∙ c.if-not-goes_on_after.false in
    record {
      reply = λ s. answer_on c.args.after others i p c.loop-child.reply c.reply_at_once-reply-in-loop-child.result _ c.loop-child-test.true c.child-item.is on
          (c.reply_at_once-reply-in-loop-child.ensures (reflects_next nothing others i p c.loop-child-test.true c.child-item.is s)) (here.reply s);
      steps = λ s. steps_on c.args.after others i p c.loop-child.reply c.reply_at_once-reply-in-loop-child.result c.loop-child.steps _ c.loop-child-test.true c.child-item.is on
          (c.reply_at_once-reply-in-loop-child.ensures (reflects_next nothing others i p c.loop-child-test.true c.child-item.is s)) (here.steps s);
      passed = omega (arith, here.passed);
    }

pub search_at_once-returns-then-not-goes_on_after-clause-reply :
    goal.search_at_once-returns-then-not-goes_on_after-clause-reply
search_at_once-returns-then-not-goes_on_after-clause-reply t c = λ s.
    let others = c.in-Some.others.now in
    let shape : c.args.children.now ≡ c.in-Some.first.now ∷ others = search rules in
    let off : goes_on_after c.args.after c.loop-child.reply ≡ false = sym c.goes_on_after.ensures ∙ c.if-not-goes_on_after.true in
    let left = answers_each nothing (seen (drop c.loop-child.child-index others)) in
    search_answers c.args.after c.in-Some.first.now others c.args.children.now c.reply_at_once-reply.result _ shape (c.reply_at_once-reply.ensures (rw shape at s).0)
    (sym (answer_stops c.args.after c.loop-child.reply left off) ∙ c.loop-child.invariant.reply (rw shape at s).1)

pub search_at_once-returns-clause-reply : goal.search_at_once-returns-clause-reply
search_at_once-returns-clause-reply t c = λ s.
    let others = c.in-Some.others.now in
    let shape : c.args.children.now ≡ c.in-Some.first.now ∷ others = search rules in
    let end = ap (λ ds. answer_from c.args.after c.loop-child.reply (answers_each nothing (seen ds))) (sym (drop_all c.loop-child.child-index others c.loop-child-test.false)) in
    search_answers c.args.after c.in-Some.first.now others c.args.children.now c.reply_at_once-reply.result _ shape (c.reply_at_once-reply.ensures (rw shape at s).0)
    (end ∙ c.loop-child.invariant.reply (rw shape at s).1)

pub reply_at_once-returns-in-InTurn : goal.reply_at_once-returns-in-InTurn
reply_at_once-returns-in-InTurn t c =
    let m = c.in-InTurn in
    rw (m.is, view-InTurn m.after m.ends m.children m.current)
    (λ s. (rw c.deref.ensures.value at c.search_at_once-reply.ensures.reply) (turn_reflects m.after (seen m.children.items) s.1))
