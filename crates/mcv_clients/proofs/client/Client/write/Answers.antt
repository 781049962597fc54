use Rattle.std.proofs.Common.{ℕ, List, subst, take}
use Rattle.std.specs.Io.KnownBytes.{Appends}
use Rattle.mcv_clients.specs.Life.{client, wire}
use Rattle.mcv_clients.proofs.Lives.{wrote_some}
use Rattle.mcv_clients.proofs.client.Client.write.Goals as goal

pub invariant_of-self : goal.invariant_of-self
invariant_of-self g c =
    let unread = g.C.Connection.unread c.send.new.connection in
    let written = g.C.Connection.written c.send.new.connection in
    let count = c.in-Bytes.count in
    let writes = subst (λ (o : List ℕ). Appends (g.C.Connection.written c.self.inside.connection) written (take count o)) c.output.ensures c.in-Bytes.ensures.takes.1 in
    wrote_some g.F.HubNames.opened_of (client (wire (g.C.Connection.unread c.self.inside.came.value) (g.C.Connection.written c.self.inside.came.value)) (wire (g.C.Connection.unread c.self.inside.connection) (g.C.Connection.written c.self.inside.connection)) c.self.inside.machine c.self.inside.out c.self.inside.hubs) unread written count c.wrote.new.self c.life_of_writing.ensures c.send.ensures.reads_nothing writes c.wrote.ensures c.self.invariant
