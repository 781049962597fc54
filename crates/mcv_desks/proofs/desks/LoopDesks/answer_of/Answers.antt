use Rattle.std.proofs.Common.{ℕ, subst}
use Rattle.std.specs.Arc.{arc_value}
use Rattle.mcv_session.specs.Desk.{answer_value}
use Rattle.mcv_text.specs.Request.{request_value}
use Rattle.mcv_desks.specs.Desks.{AsksHubs}
use Rattle.mcv_desks.proofs.OpenDesks.{less_behind, same_on, same_open}
use Rattle.mcv_desks.proofs.desks.LoopDesks.answer_of.Goals as goal

pub loop-answer-init : goal.loop-answer-init
loop-answer-init g c = same_open c.args.self.now

pub loop-answer-preserved : goal.loop-answer-preserved
loop-answer-preserved g c = same_on c.args.self.now c.loop-answer.self c.next_of.new.self c.loop-answer.invariant c.in-Reply.ensures.none

pub returns-in-Nothing-clause-none : goal.returns-in-Nothing-clause-none
returns-in-Nothing-clause-none g c = same_on c.args.self.now c.loop-answer.self c.next_of.new.self c.loop-answer.invariant c.in-Nothing.ensures.none

pub returns-in-Whole-clause-answered : goal.returns-in-Whole-clause-answered
returns-in-Whole-clause-answered g c =
    let h = c.in-Whole.ensures.answered in
    (h.0, h.1, less_behind c.args.self.now c.loop-answer.self c.next_of.new.self h.0 (request_value (arc_value c.in-Whole.answer.request)) c.loop-answer.invariant h.2)

pub returns-in-Whole-clause-answer : goal.returns-in-Whole-clause-answer
returns-in-Whole-clause-answer g c = subst (λ (hubs : ℕ). AsksHubs g.F.HubNames.opened_of hubs (request_value (arc_value c.in-Whole.answer.request)) (answer_value c.in-Whole.answer.outcome)) c.loop-answer.invariant.hubs c.in-Whole.ensures.answer
