use Rattle.std.proofs.Common.{◌∙◌, ap}
use Rattle.mcv_clients.specs.Life.{ClientView, client, wire}
use Rattle.mcv_clients.proofs.Lives.{asked_next, next_asks}
use Rattle.mcv_clients.proofs.client.Client.next_request.Goals as goal

pub invariant_of-self : goal.invariant_of-self
invariant_of-self g c =
    let opened_of = g.F.HubNames.opened_of in
    let was = (client (wire (g.C.Connection.unread c.self.inside.came.value) (g.C.Connection.written c.self.inside.came.value)) (wire (g.C.Connection.unread c.self.inside.connection) (g.C.Connection.written c.self.inside.connection)) c.self.inside.machine c.self.inside.out c.self.inside.hubs) in
    let is_open = ap (λ (v : ClientView). v.session.phase) c.self.view_is ∙ c.can_take.ensures.goes_on c.if-not-can_take.false in
    let next = c.next_of.ensures in
    asked_next opened_of was c.next_of.new.session is_open next.lives (next_asks opened_of was c.next_of.new.session c.next_of.result next.lives next.asks next.of_desk next.none c.self.invariant) c.self.invariant
