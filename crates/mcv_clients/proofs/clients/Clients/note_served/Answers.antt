use Rattle.mcv_clients.proofs.Tables.{clients_left, left_same}
use Rattle.mcv_clients.proofs.clients.Clients.note_served.Goals as goal

pub invariant_of-self : goal.invariant_of-self
invariant_of-self g c =
    let i = c.self.inside in
    clients_left i.asking.desks i.asking.next i.hubs i.clients c.note_served_at.new.clients i.room.items (left_same i.clients c.note_served_at.new.clients c.note_served_at.ensures) c.self.invariant
