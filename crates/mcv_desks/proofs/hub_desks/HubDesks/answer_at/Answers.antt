use Rattle.slab.specs.Slab.{Slab}
use Rattle.std.proofs.Common.{arith, subst, sym}
use Rattle.std.specs.Arc.{arc_value}
use Rattle.std.specs.Prelude.{IfNone, IfSome}
use Rattle.mcv_session.specs.Desk.{answer_value}
use Rattle.mcv_text.specs.Request.{request_value}
use Rattle.mcv_turn.specs.Answers.{IsAnswer}
use Rattle.mcv_turn.specs.OpenRequests.{AreSameOpen, Closes}
use Rattle.mcv_turn.specs.Question.{QuestionView}
use Rattle.mcv_desks.proofs.EightDesks.{at0, at1, at2, at3, at4, at5, at6, at7}
use Rattle.mcv_desks.proofs.hub_desks.HubDesks.answer_at.Goals as goal

pub returns-in-0-clause-answer : goal.returns-in-0-clause-answer
returns-in-0-clause-answer g c = subst (λ hub. IfSome c.answer.result (λ a. IsAnswer (g.F.HubNames.opened_of hub) (request_value (arc_value a.request)) (answer_value a.outcome))) (sym c.in-0.is) c.answer.ensures.answer

pub returns-in-0-clause-closed : goal.returns-in-0-clause-closed
returns-in-0-clause-closed g c =
    let d = c.args.self.now in
    at0 (λ (old new : Slab QuestionView). IfSome c.answer.result (λ a. Closes old new a.asker (request_value (arc_value a.request))) × IfNone c.answer.result (AreSameOpen old new)) d.desk0.questions d.desk1.questions d.desk2.questions d.desk3.questions d.desk4.questions d.desk5.questions d.desk6.questions d.desk7.questions c.answer.new.self.questions c.args.hub c.in-0.is
    (c.answer.ensures.closed, c.answer.ensures.none)

pub returns-in-1-clause-answer : goal.returns-in-1-clause-answer
returns-in-1-clause-answer g c = subst (λ hub. IfSome c.answer-in-1.result (λ a. IsAnswer (g.F.HubNames.opened_of hub) (request_value (arc_value a.request)) (answer_value a.outcome))) (sym c.in-1.is) c.answer-in-1.ensures.answer

pub returns-in-1-clause-closed : goal.returns-in-1-clause-closed
returns-in-1-clause-closed g c =
    let d = c.args.self.now in
    at1 (λ (old new : Slab QuestionView). IfSome c.answer-in-1.result (λ a. Closes old new a.asker (request_value (arc_value a.request))) × IfNone c.answer-in-1.result (AreSameOpen old new)) d.desk0.questions d.desk1.questions d.desk2.questions d.desk3.questions d.desk4.questions d.desk5.questions d.desk6.questions d.desk7.questions c.answer-in-1.new.self.questions c.args.hub c.in-1.is
    (c.answer-in-1.ensures.closed, c.answer-in-1.ensures.none)

pub returns-in-2-clause-answer : goal.returns-in-2-clause-answer
returns-in-2-clause-answer g c = subst (λ hub. IfSome c.answer-in-2.result (λ a. IsAnswer (g.F.HubNames.opened_of hub) (request_value (arc_value a.request)) (answer_value a.outcome))) (sym c.in-2.is) c.answer-in-2.ensures.answer

pub returns-in-2-clause-closed : goal.returns-in-2-clause-closed
returns-in-2-clause-closed g c =
    let d = c.args.self.now in
    at2 (λ (old new : Slab QuestionView). IfSome c.answer-in-2.result (λ a. Closes old new a.asker (request_value (arc_value a.request))) × IfNone c.answer-in-2.result (AreSameOpen old new)) d.desk0.questions d.desk1.questions d.desk2.questions d.desk3.questions d.desk4.questions d.desk5.questions d.desk6.questions d.desk7.questions c.answer-in-2.new.self.questions c.args.hub c.in-2.is
    (c.answer-in-2.ensures.closed, c.answer-in-2.ensures.none)

pub returns-in-3-clause-answer : goal.returns-in-3-clause-answer
returns-in-3-clause-answer g c = subst (λ hub. IfSome c.answer-in-3.result (λ a. IsAnswer (g.F.HubNames.opened_of hub) (request_value (arc_value a.request)) (answer_value a.outcome))) (sym c.in-3.is) c.answer-in-3.ensures.answer

pub returns-in-3-clause-closed : goal.returns-in-3-clause-closed
returns-in-3-clause-closed g c =
    let d = c.args.self.now in
    at3 (λ (old new : Slab QuestionView). IfSome c.answer-in-3.result (λ a. Closes old new a.asker (request_value (arc_value a.request))) × IfNone c.answer-in-3.result (AreSameOpen old new)) d.desk0.questions d.desk1.questions d.desk2.questions d.desk3.questions d.desk4.questions d.desk5.questions d.desk6.questions d.desk7.questions c.answer-in-3.new.self.questions c.args.hub c.in-3.is
    (c.answer-in-3.ensures.closed, c.answer-in-3.ensures.none)

pub returns-in-4-clause-answer : goal.returns-in-4-clause-answer
returns-in-4-clause-answer g c = subst (λ hub. IfSome c.answer-in-4.result (λ a. IsAnswer (g.F.HubNames.opened_of hub) (request_value (arc_value a.request)) (answer_value a.outcome))) (sym c.in-4.is) c.answer-in-4.ensures.answer

pub returns-in-4-clause-closed : goal.returns-in-4-clause-closed
returns-in-4-clause-closed g c =
    let d = c.args.self.now in
    at4 (λ (old new : Slab QuestionView). IfSome c.answer-in-4.result (λ a. Closes old new a.asker (request_value (arc_value a.request))) × IfNone c.answer-in-4.result (AreSameOpen old new)) d.desk0.questions d.desk1.questions d.desk2.questions d.desk3.questions d.desk4.questions d.desk5.questions d.desk6.questions d.desk7.questions c.answer-in-4.new.self.questions c.args.hub c.in-4.is
    (c.answer-in-4.ensures.closed, c.answer-in-4.ensures.none)

pub returns-in-5-clause-answer : goal.returns-in-5-clause-answer
returns-in-5-clause-answer g c = subst (λ hub. IfSome c.answer-in-5.result (λ a. IsAnswer (g.F.HubNames.opened_of hub) (request_value (arc_value a.request)) (answer_value a.outcome))) (sym c.in-5.is) c.answer-in-5.ensures.answer

pub returns-in-5-clause-closed : goal.returns-in-5-clause-closed
returns-in-5-clause-closed g c =
    let d = c.args.self.now in
    at5 (λ (old new : Slab QuestionView). IfSome c.answer-in-5.result (λ a. Closes old new a.asker (request_value (arc_value a.request))) × IfNone c.answer-in-5.result (AreSameOpen old new)) d.desk0.questions d.desk1.questions d.desk2.questions d.desk3.questions d.desk4.questions d.desk5.questions d.desk6.questions d.desk7.questions c.answer-in-5.new.self.questions c.args.hub c.in-5.is
    (c.answer-in-5.ensures.closed, c.answer-in-5.ensures.none)

pub returns-in-6-clause-answer : goal.returns-in-6-clause-answer
returns-in-6-clause-answer g c = subst (λ hub. IfSome c.answer-in-6.result (λ a. IsAnswer (g.F.HubNames.opened_of hub) (request_value (arc_value a.request)) (answer_value a.outcome))) (sym c.in-6.is) c.answer-in-6.ensures.answer

pub returns-in-6-clause-closed : goal.returns-in-6-clause-closed
returns-in-6-clause-closed g c =
    let d = c.args.self.now in
    at6 (λ (old new : Slab QuestionView). IfSome c.answer-in-6.result (λ a. Closes old new a.asker (request_value (arc_value a.request))) × IfNone c.answer-in-6.result (AreSameOpen old new)) d.desk0.questions d.desk1.questions d.desk2.questions d.desk3.questions d.desk4.questions d.desk5.questions d.desk6.questions d.desk7.questions c.answer-in-6.new.self.questions c.args.hub c.in-6.is
    (c.answer-in-6.ensures.closed, c.answer-in-6.ensures.none)

pub returns-in_default-clause-answer : goal.returns-in_default-clause-answer
returns-in_default-clause-answer g c = subst (λ hub. IfSome c.answer-in_default.result (λ a. IsAnswer (g.F.HubNames.opened_of hub) (request_value (arc_value a.request)) (answer_value a.outcome))) (sym (omega (arith, c.requires))) c.answer-in_default.ensures.answer

pub returns-in_default-clause-closed : goal.returns-in_default-clause-closed
returns-in_default-clause-closed g c =
    let d = c.args.self.now in
    at7 (λ (old new : Slab QuestionView). IfSome c.answer-in_default.result (λ a. Closes old new a.asker (request_value (arc_value a.request))) × IfNone c.answer-in_default.result (AreSameOpen old new)) d.desk0.questions d.desk1.questions d.desk2.questions d.desk3.questions d.desk4.questions d.desk5.questions d.desk6.questions d.desk7.questions c.answer-in_default.new.self.questions c.args.hub (omega (arith, c.requires))
    (c.answer-in_default.ensures.closed, c.answer-in_default.ensures.none)
