use Rattle.std.proofs.Common.{arith}
use Rattle.mcv_clients.proofs.Tables.{clients_wait}
use Rattle.mcv_clients.proofs.clients.Clients.turn.Goals as goal

pub invariant_of-self : goal.invariant_of-self
invariant_of-self g c =
    let i = c.self.inside in
    let next = c.turn.ensures.next in
    clients_wait i.asking.desks c.turn.new.self.desks i.asking.next c.turn.new.self.next i.hubs i.clients i.room.items c.turn.ensures.desks (omega (arith, next)) c.self.invariant
