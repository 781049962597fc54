use Rattle.mcv_clients.proofs.Tables.{clients_go}
use Rattle.mcv_clients.proofs.clients.Clients.tell.Goals as goal

pub invariant_of-self : goal.invariant_of-self
invariant_of-self g c =
    let i = c.self.inside in
    clients_go i.asking.desks i.asking.next i.hubs c.args.number i.clients c.write_at.new.clients i.room.items c.write_at.ensures c.self.invariant
