use Rattle.mcv_clients.proofs.Tables.{clients_left, left_same}
use Rattle.mcv_clients.proofs.clients.Clients.end_input_of.Goals as goal

pub invariant_of-self : goal.invariant_of-self
invariant_of-self g c =
    let i = c.self.inside in
    clients_left i.asking.desks i.asking.next i.hubs i.clients c.end_input_at.new.clients i.room.items (left_same i.clients c.end_input_at.new.clients c.end_input_at.ensures) c.self.invariant
