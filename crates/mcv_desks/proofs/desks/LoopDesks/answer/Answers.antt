use Rattle.std.proofs.Common.{ℕ, subst}
use Rattle.std.specs.Arc.{arc_value}
use Rattle.mcv_session.specs.Desk.{answer_value}
use Rattle.mcv_text.specs.Request.{request_value}
use Rattle.mcv_desks.specs.Desks.{AsksHubs}
use Rattle.mcv_desks.proofs.LimitedAnswers.{limited_asks}
use Rattle.mcv_desks.proofs.OpenDesks.{less_behind, same_on, same_open}
use Rattle.mcv_desks.proofs.desks.LoopDesks.answer.Goals as goal

pub loop-hub-init : goal.loop-hub-init
loop-hub-init g c = same_open c.args.self.now

pub loop-hub-preserved : goal.loop-hub-preserved
loop-hub-preserved g c = same_on c.args.self.now c.loop-hub.self c.answer_of.new.self c.loop-hub.invariant c.in_default.ensures.none

pub returns-in-Some-clause-answered : goal.returns-in-Some-clause-answered
returns-in-Some-clause-answered g c =
    let h = c.in-Some.ensures.answered in
    (h.0, h.1, less_behind c.args.self.now c.loop-hub.self c.answer_of.new.self h.0 (request_value (arc_value c.in-Some.answer.request)) c.loop-hub.invariant h.2)

pub returns-in-Some-clause-answer : goal.returns-in-Some-clause-answer
returns-in-Some-clause-answer g c =
    let answer = c.in-Some.answer in
    let request = request_value (arc_value answer.request) in
    let asks = subst (λ (hubs : ℕ). AsksHubs g.F.HubNames.opened_of hubs request (answer_value answer.outcome)) c.loop-hub.invariant.hubs c.in-Some.ensures.answer in
    limited_asks g.F.HubNames.opened_of c.args.self.now.hubs request _ answer.outcome c.limited-outcome.result c.limited-outcome.ensures.ok c.limited-outcome.ensures.err asks
