use Rattle.std.proofs.Common.{ap, arith, length}
use Rattle.mcv_clients.proofs.Tables.{clients_go, some_room}
use Rattle.mcv_clients.proofs.clients.Clients.read.Goals as goal

-- the room of a read stays as large as it is
pub invariant_of-self : goal.invariant_of-self
invariant_of-self g c =
    let i = c.self.inside in
    let now = clients_go i.asking.desks i.asking.next i.hubs c.args.number i.clients c.read_at.new.clients i.room.items c.read_at.ensures c.self.invariant in
    let has = c.self.invariant.has_room in
    let all = ap length c.as_mut_slice.ensures.value in
    let len = c.as_mut_slice.ensures.len in
    let stays = c.read_at.auto.room in
    record { among = now.among; each = now.each; has_room = some_room i.room.len c.read_at.new.room i.room.items (omega (arith, has, all, len)) (omega (arith, has, all, stays)) }
