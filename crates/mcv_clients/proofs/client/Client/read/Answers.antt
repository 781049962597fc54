use Rattle.std.proofs.Common.{◌∙◌, ap, take}
use Rattle.mcv_clients.specs.Life.{ClientView, client, wire}
use Rattle.mcv_clients.proofs.Lives.{read_some}
use Rattle.mcv_clients.proofs.client.Client.read.Goals as goal

pub invariant_of-self : goal.invariant_of-self
invariant_of-self g c =
    let unread = g.C.Connection.unread c.receive.new.connection in
    let written = g.C.Connection.written c.receive.new.connection in
    let is_open = ap (λ (v : ClientView). v.session.phase) c.self.view_is ∙ c.reads.ensures.goes_on c.if-not-reads.false in
    read_some g.F.HubNames.opened_of (client (wire (g.C.Connection.unread c.self.inside.came.value) (g.C.Connection.written c.self.inside.came.value)) (wire (g.C.Connection.unread c.self.inside.connection) (g.C.Connection.written c.self.inside.connection)) c.self.inside.machine c.self.inside.out c.self.inside.hubs) unread written (take c.in-Bytes.count c.receive.new.room) c.feed.new.self c.feed.result c.life_of_feeding.ensures c.life_of_failing.ensures
    is_open c.in-Bytes.ensures.gives.1 c.receive.ensures.writes_nothing c.feed.ensures.ok c.feed.ensures.ended c.feed.ensures.memory c.self.invariant
