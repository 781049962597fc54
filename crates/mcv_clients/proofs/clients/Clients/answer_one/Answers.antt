use Rattle.std.proofs.Common.{ℕ, arith, subst, sym}
use Rattle.std.specs.Arc.{arc_value}
use Rattle.mcv_session.specs.Desk.{answer_value}
use Rattle.mcv_text.specs.Request.{request_value}
use Rattle.mcv_clients.specs.Clients.{AreClients}
use Rattle.mcv_clients.proofs.Tables.{clients_told, clients_wait, clients_without, its_answer}
use Rattle.mcv_clients.proofs.clients.Clients.answer_one.Goals as goal

-- there is none
pub invariant_of-self : goal.invariant_of-self
invariant_of-self g c =
    let i = c.self.inside in
    let next = c.answer.ensures.next in
    clients_wait i.asking.desks c.answer.new.self.desks i.asking.next c.answer.new.self.next i.hubs i.clients i.room.items c.in_default.ensures.none (omega (arith, next)) c.self.invariant

-- it is of one that has gone
pub invariant_of-self-in_default-client : goal.invariant_of-self-in_default-client
invariant_of-self-in_default-client g c =
    let i = c.self.inside in
    let a = c.in-Some.answer in
    let d = c.answer.new.self.desks in
    subst (λ (n : ℕ). AreClients d n i.hubs i.clients i.room.items) (sym c.answer.ensures.next) (clients_without i.asking.desks d i.asking.next i.hubs a.serial (request_value (arc_value a.request)) i.clients i.room.items c.in-Some.ensures.answered c.self.invariant)

pub answer_at-requires : goal.answer_at-requires
answer_at-requires g c =
    let i = c.self.inside in
    let a = c.in-Some.answer in
    its_answer g.F.HubNames.opened_of i.asking.desks c.answer.new.self.desks i.asking.next i.hubs c.in-Some-client.number a.serial (request_value (arc_value a.request)) (answer_value a.outcome) i.clients i.room.items c.in-Some.ensures.answered c.in-Some.ensures.answer c.self.invariant

pub invariant_of-self-then-answer_at : goal.invariant_of-self-then-answer_at
invariant_of-self-then-answer_at g c =
    let i = c.self.inside in
    let a = c.in-Some.answer in
    let d = c.answer.new.self.desks in
    let new = c.answer_at.new.clients in
    subst (λ (n : ℕ). AreClients d n i.hubs new i.room.items) (sym c.answer.ensures.next)
    (clients_told i.asking.desks d i.asking.next i.hubs c.in-Some-client.number a.serial (request_value (arc_value a.request)) (answer_value a.outcome) i.clients new i.room.items c.in-Some.ensures.answered c.answer_at.ensures c.self.invariant)

pub invariant_of-self-else-answer_at : goal.invariant_of-self-else-answer_at
invariant_of-self-else-answer_at g c =
    let i = c.self.inside in
    let a = c.in-Some.answer in
    let d = c.answer.new.self.desks in
    let new = c.answer_at.new.clients in
    subst (λ (n : ℕ). AreClients d n i.hubs new i.room.items) (sym c.answer.ensures.next)
    (clients_told i.asking.desks d i.asking.next i.hubs c.in-Some-client.number a.serial (request_value (arc_value a.request)) (answer_value a.outcome) i.clients new i.room.items c.in-Some.ensures.answered c.answer_at.ensures c.self.invariant)
