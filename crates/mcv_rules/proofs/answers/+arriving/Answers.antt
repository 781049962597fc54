use Rattle.std.proofs.Common.{rules, ap, ◌∙◌}
use Rattle.mcv_rules.specs.Arrivals.{known_at, next_arrived}
use Rattle.mcv_rules.specs.PlanInMemory.{arrived}
use Rattle.mcv_rules.proofs.StoppedSearch.{answer_stops}
use Rattle.mcv_rules.proofs.SearchGoesOn.{answer_on}
use Rattle.mcv_rules.proofs.answers.+arriving.Goals as goal

-- a search that stops has its answer
pub arrive_in_turn-returns-then-not-goes_on_after : goal.arrive_in_turn-returns-then-not-goes_on_after
arrive_in_turn-returns-then-not-goes_on_after t c = search (rules, answer_stops)

-- the next one's answer is taken up
pub arrive_in_turn-loop-plan-preserved : goal.arrive_in_turn-loop-plan-preserved
arrive_in_turn-loop-plan-preserved t c =
    answer_on c.args.after (arrived (known_at c.args.known.now)) c.in-Some.others.now c.loop-plan.plan-index c.plan-item.result c.loop-plan.answer c.or_next-answer.result _ c.loop-plan-test.true c.plan-item.is
    (c.or_next-answer.ensures ∙ ap (next_arrived c.args.after c.loop-plan.answer) c.arrive.ensures) c.loop-plan.invariant
