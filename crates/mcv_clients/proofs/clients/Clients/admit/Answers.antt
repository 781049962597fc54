use Rattle.slab.specs.Slab.{Slab, Updates}
use Rattle.std.proofs.Common.{◌≡◌, ◌∙◌, Some, ap, subst}
use Rattle.mcv_clients.specs.Life.{ClientView, came_client, wire}
use Rattle.mcv_clients.proofs.Tables.{clients_left, clients_more, left_same, same_slots}
use Rattle.mcv_clients.proofs.clients.Clients.admit.Goals.{then-self, else-self}
use Rattle.mcv_clients.proofs.clients.Clients.admit.Goals as goal

-- there is no memory for it
pub invariant_of-self-in_default : goal.invariant_of-self-in_default
invariant_of-self-in_default g c =
    let i = c.self.inside in
    let same = same_slots i.clients c.insert.new.self (ap (λ (s : Slab ClientView). s.slots) c.in_default.ensures.err) in
    clients_left i.asking.desks i.asking.next i.hubs i.clients c.insert.new.self i.room.items (left_same i.clients c.insert.new.self same) c.self.invariant

pub invariant_of-self-2 : goal.invariant_of-self-2
invariant_of-self-2 g c =
    let i = c.self.inside in
    let w = wire (g.C.Connection.unread c.args.connection) (g.C.Connection.written c.args.connection) in
    let is : c.if-self.client ≡ came_client w i.hubs =
    elim c.if-self.branch [
      | then-self w ↦ w.client-is ∙ w.end_input.ensures ∙ c.touch.ensures ∙ c.new-client.ensures
      | else-self w ↦ w.client-is ∙ c.touch.ensures ∙ c.new-client.ensures
    ]
    in
    clients_more i.asking.desks i.asking.next i.hubs c.in-Ok.number w i.clients c.insert.new.self i.room.items (subst (λ (v : ClientView). Updates i.clients c.insert.new.self c.in-Ok.number (Some v)) is c.in-Ok.ensures.updates) c.self.invariant
