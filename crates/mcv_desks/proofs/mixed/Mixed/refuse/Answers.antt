use Rattle.std.proofs.Common.{Err, Some, subst, sym}
use Rattle.std.specs.Arc.{arc_value}
use Rattle.mcv_session.specs.declared.desk.DeskFault.{DeskFault}
use Rattle.mcv_text.specs.Request.{request_value}
use Rattle.mcv_desks.specs.Desks.{AsksHubs}
use Rattle.mcv_desks.specs.Mixed.{IsMixed, MixedRequest, MixedView}
use Rattle.mcv_desks.proofs.MixedReplies.{one_refused}
use Rattle.mcv_desks.proofs.mixed.Mixed.refuse.Goals as goal

pub invariant_of-self : goal.invariant_of-self
invariant_of-self g c =
    let opened_of = g.F.HubNames.opened_of in
    let m = c.self.inside in
    let q : MixedRequest = record { serial = m.serial; number = m.number; hubs = m.hubs; asked = arc_value m.request } in
    let why : AsksHubs opened_of q.hubs (request_value q.asked) (Err c.args.fault) = subst (λ (v : MixedView). AsksHubs opened_of v.request.hubs (request_value v.request.asked) (Err c.args.fault)) (sym c.self.view_is) c.requires in
    subst (λ (f : DeskFault). IsMixed opened_of q m.of_keys.items m.replies.items m.parts c.saturating_add-self-inside.result (Some f)) (sym c.unwrap_or.ensures) (one_refused opened_of q m.of_keys.items m.replies.items m.parts m.answered m.fault c.self.invariant c.saturating_add-self-inside.result c.args.fault why)
