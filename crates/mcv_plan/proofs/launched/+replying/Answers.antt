use Rattle.std.proofs.Common.{rules, true, false, None, Some, ◌≡◌, ◌∷◌, ◌∙◌, ap, drop, sym}
use Rattle.std.proofs.lemmas.List.{drop_all}
use Rattle.mcv_plan.specs.KnownOutcomes.{own_in}
use Rattle.mcv_plan.specs.ReachedAnswers.{answer_from, answer_of, goes_on_after}
use Rattle.mcv_plan.specs.State.{answered, answers_each}
use Rattle.mcv_plan.specs.View.{seen, view}
use Rattle.mcv_plan.proofs.KnownOutcomes.{all_in, answer_known, known_before, none_in, search_known, waits_in, worst_in}
use Rattle.mcv_plan.proofs.Waves.{answer_stops}
use Rattle.mcv_plan.proofs.launched.+replying.Goals as goal

-- ---- all

pub worst_in-loop-child-preserved : goal.worst_in-loop-child-preserved
worst_in-loop-child-preserved t c =
    let here = c.loop-child.invariant in
    let o = own_in c.args.outcomes.now in
    let cs = c.args.children.now in
    let i = c.loop-child.child-index in
    let p = c.child-item.result in
    let answer = c.in_ok-answer.answer in
    let some : c.reply_in.result ≡ Some answer = search rules in
    let there : Some answer ≡ answer_of (answered o (view p)) = sym some ∙ c.reply_in.ensures in
    record {
      all = waits_in o cs i p c.loop-child-test.true c.child-item.is answer _ there here.all;
      worst = worst_in o cs i p c.loop-child-test.true c.child-item.is answer c.loop-child.worst _ _ there (ap Some c.over.ensures) here.worst;
    }

pub worst_in-returns-in_err-answer : goal.worst_in-returns-in_err-answer
worst_in-returns-in_err-answer t c =
    let silent : c.reply_in.result ≡ None = search rules in
    let gone : c.from_residual.result ≡ None = search rules in
    gone
    ∙ none_in (own_in c.args.outcomes.now) c.args.children.now c.loop-child.child-index c.child-item.result c.loop-child-test.true c.child-item.is (sym silent ∙ c.reply_in.ensures) c.loop-child.invariant.all

pub worst_in-returns : goal.worst_in-returns
worst_in-returns t c =
    all_in (own_in c.args.outcomes.now) c.args.children.now c.loop-child.child-index c.loop-child.worst (known_before c.args.outcomes.now) c.loop-child-test.false
    c.loop-child.invariant.all c.loop-child.invariant.worst

-- ---- one after another

pub search_in-loop-child-preserved : goal.search_in-loop-child-preserved
search_in-loop-child-preserved t c =
    let on : goes_on_after c.args.after c.loop-child.reply ≡ true = sym c.goes_on_after.ensures ∙ c.if-not-goes_on_after.false in
    answer_known (own_in c.args.outcomes.now) c.args.after c.in_ok-first.others.now c.loop-child.child-index c.child-item.result c.loop-child.reply c.reply_in-reply-in-loop-child.result _
    c.loop-child-test.true c.child-item.is on c.reply_in-reply-in-loop-child.ensures c.loop-child.invariant

pub search_in-returns-then-not-goes_on_after : goal.search_in-returns-then-not-goes_on_after
search_in-returns-then-not-goes_on_after t c =
    let o = own_in c.args.outcomes.now in
    let others = c.in_ok-first.others.now in
    let shape : c.args.children.now ≡ c.in_ok-first.first.now ∷ others = search rules in
    let off : goes_on_after c.args.after c.loop-child.reply ≡ false = sym c.goes_on_after.ensures ∙ c.if-not-goes_on_after.true in
    let left = answers_each o (seen (drop c.loop-child.child-index others)) in
    search_known o c.args.after c.in_ok-first.first.now others c.args.children.now c.reply_in-reply.result _ shape c.reply_in-reply.ensures
    (sym (answer_stops c.args.after c.loop-child.reply left off) ∙ c.loop-child.invariant)

pub search_in-returns : goal.search_in-returns
search_in-returns t c =
    let o = own_in c.args.outcomes.now in
    let others = c.in_ok-first.others.now in
    let shape : c.args.children.now ≡ c.in_ok-first.first.now ∷ others = search rules in
    let end = ap (λ ds. answer_from c.args.after c.loop-child.reply (answers_each o (seen ds))) (sym (drop_all c.loop-child.child-index others c.loop-child-test.false)) in
    search_known o c.args.after c.in_ok-first.first.now others c.args.children.now c.reply_in-reply.result _ shape c.reply_in-reply.ensures (end ∙ c.loop-child.invariant)
