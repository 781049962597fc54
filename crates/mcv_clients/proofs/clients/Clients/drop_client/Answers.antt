use Rattle.std.proofs.Common.{subst, sym}
use Rattle.mcv_clients.specs.Asking.{AskingView}
use Rattle.mcv_clients.specs.Clients.{AreClients}
use Rattle.mcv_clients.proofs.Tables.{clients_left, left_gone}
use Rattle.mcv_clients.proofs.clients.Clients.drop_client.Goals as goal

pub invariant_of-self-in_default-out : goal.invariant_of-self-in_default-out
invariant_of-self-in_default-out g c =
    let i = c.self.inside in
    let new = c.try_remove.new.self in
    clients_left i.asking.desks i.asking.next i.hubs i.clients new i.room.items (left_gone i.clients new c.args.number c.try_remove.ensures.updates.changed c.try_remove.ensures.updates.others) c.self.invariant

pub invariant_of-self-in-Some-out : goal.invariant_of-self-in-Some-out
invariant_of-self-in-Some-out g c =
    let i = c.self.inside in
    let new = c.try_remove.new.self in
    subst (λ (a : AskingView). AreClients a.desks a.next i.hubs new i.room.items) (sym c.forget.ensures)
    (clients_left i.asking.desks i.asking.next i.hubs i.clients new i.room.items (left_gone i.clients new c.args.number c.try_remove.ensures.updates.changed c.try_remove.ensures.updates.others) c.self.invariant)
