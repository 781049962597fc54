use Rattle.slab.specs.Slab.{Slab}
use Rattle.std.proofs.Common.{OnErr, OnOk, arith}
use Rattle.std.specs.Arc.{arc_value}
use Rattle.mcv_text.specs.Request.{request_value}
use Rattle.mcv_turn.specs.OpenRequests.{AreSameOpen, Opens}
use Rattle.mcv_turn.specs.Question.{QuestionView}
use Rattle.mcv_desks.proofs.EightDesks.{at0, at1, at2, at3, at4, at5, at6, at7}
use Rattle.mcv_desks.proofs.hub_desks.HubDesks.ask_at.Goals as goal

pub returns-in-0 : goal.returns-in-0
returns-in-0 g c =
    let d = c.args.self.now in
    at0 (λ (old new : Slab QuestionView). OnOk c.ask.result (Opens old new c.args.asker (request_value (arc_value c.args.request))) × OnErr c.ask.result (AreSameOpen old new)) d.desk0.questions d.desk1.questions d.desk2.questions d.desk3.questions d.desk4.questions d.desk5.questions d.desk6.questions d.desk7.questions c.ask.new.self.questions c.args.hub c.in-0.is
    (c.ask.ensures.asked, c.ask.ensures.err)

pub returns-in-1 : goal.returns-in-1
returns-in-1 g c =
    let d = c.args.self.now in
    at1 (λ (old new : Slab QuestionView). OnOk c.ask-in-1.result (Opens old new c.args.asker (request_value (arc_value c.args.request))) × OnErr c.ask-in-1.result (AreSameOpen old new)) d.desk0.questions d.desk1.questions d.desk2.questions d.desk3.questions d.desk4.questions d.desk5.questions d.desk6.questions d.desk7.questions c.ask-in-1.new.self.questions c.args.hub c.in-1.is
    (c.ask-in-1.ensures.asked, c.ask-in-1.ensures.err)

pub returns-in-2 : goal.returns-in-2
returns-in-2 g c =
    let d = c.args.self.now in
    at2 (λ (old new : Slab QuestionView). OnOk c.ask-in-2.result (Opens old new c.args.asker (request_value (arc_value c.args.request))) × OnErr c.ask-in-2.result (AreSameOpen old new)) d.desk0.questions d.desk1.questions d.desk2.questions d.desk3.questions d.desk4.questions d.desk5.questions d.desk6.questions d.desk7.questions c.ask-in-2.new.self.questions c.args.hub c.in-2.is
    (c.ask-in-2.ensures.asked, c.ask-in-2.ensures.err)

pub returns-in-3 : goal.returns-in-3
returns-in-3 g c =
    let d = c.args.self.now in
    at3 (λ (old new : Slab QuestionView). OnOk c.ask-in-3.result (Opens old new c.args.asker (request_value (arc_value c.args.request))) × OnErr c.ask-in-3.result (AreSameOpen old new)) d.desk0.questions d.desk1.questions d.desk2.questions d.desk3.questions d.desk4.questions d.desk5.questions d.desk6.questions d.desk7.questions c.ask-in-3.new.self.questions c.args.hub c.in-3.is
    (c.ask-in-3.ensures.asked, c.ask-in-3.ensures.err)

pub returns-in-4 : goal.returns-in-4
returns-in-4 g c =
    let d = c.args.self.now in
    at4 (λ (old new : Slab QuestionView). OnOk c.ask-in-4.result (Opens old new c.args.asker (request_value (arc_value c.args.request))) × OnErr c.ask-in-4.result (AreSameOpen old new)) d.desk0.questions d.desk1.questions d.desk2.questions d.desk3.questions d.desk4.questions d.desk5.questions d.desk6.questions d.desk7.questions c.ask-in-4.new.self.questions c.args.hub c.in-4.is
    (c.ask-in-4.ensures.asked, c.ask-in-4.ensures.err)

pub returns-in-5 : goal.returns-in-5
returns-in-5 g c =
    let d = c.args.self.now in
    at5 (λ (old new : Slab QuestionView). OnOk c.ask-in-5.result (Opens old new c.args.asker (request_value (arc_value c.args.request))) × OnErr c.ask-in-5.result (AreSameOpen old new)) d.desk0.questions d.desk1.questions d.desk2.questions d.desk3.questions d.desk4.questions d.desk5.questions d.desk6.questions d.desk7.questions c.ask-in-5.new.self.questions c.args.hub c.in-5.is
    (c.ask-in-5.ensures.asked, c.ask-in-5.ensures.err)

pub returns-in-6 : goal.returns-in-6
returns-in-6 g c =
    let d = c.args.self.now in
    at6 (λ (old new : Slab QuestionView). OnOk c.ask-in-6.result (Opens old new c.args.asker (request_value (arc_value c.args.request))) × OnErr c.ask-in-6.result (AreSameOpen old new)) d.desk0.questions d.desk1.questions d.desk2.questions d.desk3.questions d.desk4.questions d.desk5.questions d.desk6.questions d.desk7.questions c.ask-in-6.new.self.questions c.args.hub c.in-6.is
    (c.ask-in-6.ensures.asked, c.ask-in-6.ensures.err)

pub returns-in_default : goal.returns-in_default
returns-in_default g c =
    let d = c.args.self.now in
    at7 (λ (old new : Slab QuestionView). OnOk c.ask-in_default.result (Opens old new c.args.asker (request_value (arc_value c.args.request))) × OnErr c.ask-in_default.result (AreSameOpen old new)) d.desk0.questions d.desk1.questions d.desk2.questions d.desk3.questions d.desk4.questions d.desk5.questions d.desk6.questions d.desk7.questions c.ask-in_default.new.self.questions c.args.hub (omega (arith, c.requires))
    (c.ask-in_default.ensures.asked, c.ask-in_default.ensures.err)
