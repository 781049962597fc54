use Rattle.mcv_clients.proofs.Tables.{clients_left, left_same}
use Rattle.mcv_clients.proofs.clients.Clients.touch.Goals as goal

pub invariant_of-self : goal.invariant_of-self
invariant_of-self g c =
    let i = c.self.inside in
    clients_left i.asking.desks i.asking.next i.hubs i.clients c.touch_at.new.clients i.room.items (left_same i.clients c.touch_at.new.clients c.touch_at.ensures) c.self.invariant

pub invariant_of-self-then-is_err : goal.invariant_of-self-then-is_err
invariant_of-self-then-is_err g c =
    let i = c.self.inside in
    clients_left i.asking.desks i.asking.next i.hubs i.clients c.touch_at.new.clients i.room.items (left_same i.clients c.touch_at.new.clients c.touch_at.ensures) c.self.invariant

pub invariant_of-self-else-is_err : goal.invariant_of-self-else-is_err
invariant_of-self-else-is_err g c =
    let i = c.self.inside in
    clients_left i.asking.desks i.asking.next i.hubs i.clients c.touch_at.new.clients i.room.items (left_same i.clients c.touch_at.new.clients c.touch_at.ensures) c.self.invariant
