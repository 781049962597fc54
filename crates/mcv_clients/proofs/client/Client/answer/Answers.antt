use Rattle.std.proofs.Common.{subst, sym}
use Rattle.mcv_session.specs.Desk.{answer_value}
use Rattle.mcv_clients.specs.Life.{ClientView, IsToldOf, client, wire}
use Rattle.mcv_clients.proofs.Lives.{told}
use Rattle.mcv_clients.proofs.client.Client.answer.Goals as goal

pub invariant_of-self : goal.invariant_of-self
invariant_of-self g c =
    let opened_of = g.F.HubNames.opened_of in
    told opened_of (client (wire (g.C.Connection.unread c.self.inside.came.value) (g.C.Connection.written c.self.inside.came.value)) (wire (g.C.Connection.unread c.self.inside.connection) (g.C.Connection.written c.self.inside.connection)) c.self.inside.machine c.self.inside.out c.self.inside.hubs) c.put_answer.new.session (answer_value c.args.outcome) c.life_of_answering.ensures c.life_of_failing.ensures
    (subst (λ (v : ClientView). IsToldOf opened_of v (answer_value c.args.outcome)) (sym c.self.view_is) c.requires) c.put_answer.ensures c.self.invariant
