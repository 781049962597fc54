use Rattle.std.proofs.Common.{arith, subst, sym}
use Rattle.std.specs.Arc.{arc_value}
use Rattle.mcv_session.specs.Desk.{answer_value}
use Rattle.mcv_text.specs.Request.{request_value}
use Rattle.mcv_desks.specs.Desks.{AsksHubs}
use Rattle.mcv_desks.specs.Mixed.{IsDone, MixedRequest, MixedView}
use Rattle.mcv_desks.proofs.MixedReplies.{each_replied, mixed_answer}
use Rattle.mcv_desks.proofs.mixed.Mixed.into_answer.Goals as goal

pub outcome_of-outcome-requires-clause-each : goal.outcome_of-outcome-requires-clause-each
outcome_of-outcome-requires-clause-each g c =
    let m = c.self.inside in
    let q : MixedRequest = record { serial = m.serial; number = m.number; hubs = m.hubs; asked = arc_value m.request } in
    each_replied g.F.HubNames.opened_of q m.of_keys.items m.replies.items m.parts m.answered m.fault c.self.invariant (subst IsDone (sym c.self.view_is) c.requires)

pub outcome_of-outcome-requires-clause-room : goal.outcome_of-outcome-requires-clause-room
outcome_of-outcome-requires-clause-room g c =
    let each = c.self.invariant.one_each in
    let room = c.self.invariant.room in
    omega (arith, each, room)

pub returns-clause-answer : goal.returns-clause-answer
returns-clause-answer g c =
    let m = c.self.inside in
    let q : MixedRequest = record { serial = m.serial; number = m.number; hubs = m.hubs; asked = arc_value m.request } in
    let is = mixed_answer g.F.HubNames.opened_of q m.of_keys.items m.replies.items m.parts m.answered m.fault c.self.invariant c.outcome_of-outcome.result c.outcome_of-outcome.ensures.ok c.outcome_of-outcome.ensures.err in
    subst (λ (v : MixedView). AsksHubs g.F.HubNames.opened_of v.request.hubs (request_value v.request.asked) (answer_value c.outcome_of-outcome.result)) c.self.view_is is
