use Rattle.std.proofs.Common.{◌∙◌, sym}
use Rattle.mcv_clients.proofs.Tables.{no_clients}
use Rattle.mcv_clients.proofs.clients.Clients.new.Goals as goal

pub invariant_of-result : goal.invariant_of-result
invariant_of-result g c =
    let a = c.in_ok-asking.asking in
    no_clients a.desks a.next c.hubs.result c.new-2.result c.in_ok-room.room.items (c.hubs.ensures.hubs ∙ sym c.in_ok-asking.ensures.hubs) c.new-2.ensures.empty c.in_ok-room.ensures
