use Rattle.std.proofs.Common.{rules, ◌≡◌, ◌∷◌, true, sym, ◌∙◌}
use Rattle.std.specs.Prelude.{slice_index}
use Rattle.mcv_rules.specs.Arrivals.{goes_on_after, known_at, outcome_in}
use Rattle.mcv_rules.specs.PlanInMemory.{sent}
use Rattle.mcv_rules.proofs.StoppedSearch.{reply_stops}
use Rattle.mcv_rules.proofs.SearchGoesOn.{all_end, all_on, legs_end, legs_on, reply_on, worse_on}
use Rattle.mcv_rules.proofs.legs.+sending.Goals as goal

-- a search that stops has its reply
pub send_in_turn-returns-then-not-goes_on_after-clause-reply : goal.send_in_turn-returns-then-not-goes_on_after-clause-reply
send_in_turn-returns-then-not-goes_on_after-clause-reply t c = search (rules, reply_stops)

-- the next one's legs come after those found
pub send_in_turn-loop-plan-preserved : goal.send_in_turn-loop-plan-preserved
send_in_turn-loop-plan-preserved t c =
    let each = sent (slice_index c.args.choice.now) (outcome_in (known_at c.args.known.now)) in
    let goes : goes_on_after c.args.after c.loop-plan.reply ≡ true = sym c.goes_on_after.ensures ∙ c.if-not-goes_on_after.false in
    let here = c.loop-plan.invariant in
    let next = c.in_ok-reply-2.ensures in
    record {
      legs = legs_on c.args.after each c.in-Some.others.now c.loop-plan.plan-index c.plan-item.result c.loop-plan.found.items c.send-in-loop-plan.new.found.items _ c.loop-plan.reply c.in_ok-reply-2.reply c.loop-plan-test.true c.plan-item.is goes next.legs next.reply here.legs;
      reply = reply_on c.args.after each c.in-Some.others.now c.loop-plan.plan-index c.plan-item.result c.loop-plan.reply c.in_ok-reply-2.reply _ c.loop-plan-test.true c.plan-item.is goes next.reply here.reply;
    }

pub send_in_turn-returns-clause-legs : goal.send_in_turn-returns-clause-legs
send_in_turn-returns-clause-legs t c = search (rules, legs_end)

-- all at once: one plan's legs and reply more
pub send_all-loop-plan-preserved : goal.send_all-loop-plan-preserved
send_all-loop-plan-preserved t c =
    let each = sent (slice_index c.args.choice.now) (outcome_in (known_at c.args.known.now)) in
    let next = c.in_ok-next.ensures in
    record {
      legs = all_on each c.in-Some.others.now c.loop-plan.plan-index c.plan-item.result c.loop-plan.found.items c.send-in-loop-plan.new.found.items _ c.loop-plan-test.true c.plan-item.is next.legs c.loop-plan.invariant.legs;
      reply = worse_on each c.in-Some.others.now c.loop-plan.plan-index c.plan-item.result c.loop-plan.worst c.in_ok-next.next c.worse-worst.result _ c.loop-plan-test.true c.plan-item.is next.reply c.worse-worst.ensures c.loop-plan.invariant.reply;
    }

pub send_all-returns-clause-legs : goal.send_all-returns-clause-legs
send_all-returns-clause-legs t c =
    let each = sent (slice_index c.args.choice.now) (outcome_in (known_at c.args.known.now)) in
    let shape : c.args.plans.now ≡ c.in-Some.first.now ∷ c.in-Some.others.now = search rules in
    all_end each c.in-Some.first.now c.in-Some.others.now c.args.plans.now c.loop-plan.plan-index c.args.found.now.items c.send.new.found.items c.loop-plan.found.items shape c.loop-plan-test.false c.in_ok-worst.ensures.legs c.loop-plan.invariant.legs

pub send_beside-loop-plan-preserved : goal.send_beside-loop-plan-preserved
send_beside-loop-plan-preserved t c =
    let each = sent (slice_index c.args.choice.now) (outcome_in (known_at c.args.known.now)) in
    all_on each c.in-Some.others.now c.loop-plan.plan-index c.plan-item.result c.loop-plan.found.items c.send-in-loop-plan.new.found.items _ c.loop-plan-test.true c.plan-item.is c.in_ok-send.ensures.legs c.loop-plan.invariant

pub send_beside-returns-clause-legs : goal.send_beside-returns-clause-legs
send_beside-returns-clause-legs t c =
    let each = sent (slice_index c.args.choice.now) (outcome_in (known_at c.args.known.now)) in
    let shape : c.args.plans.now ≡ c.in-Some.first.now ∷ c.in-Some.others.now = search rules in
    all_end each c.in-Some.first.now c.in-Some.others.now c.args.plans.now c.loop-plan.plan-index c.args.found.now.items c.send.new.found.items c.loop-plan.found.items shape c.loop-plan-test.false c.in_ok-reply.ensures.legs c.loop-plan.invariant
