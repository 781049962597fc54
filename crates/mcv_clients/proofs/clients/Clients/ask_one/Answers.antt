use Rattle.std.proofs.Common.{Err, ap, subst}
use Rattle.std.specs.Arc.{arc_value}
use Rattle.mcv_session.specs.declared.desk.DeskFault.TheVariants.{Memory}
use Rattle.mcv_text.specs.Request.{request_value}
use Rattle.mcv_clients.specs.Clients.{AreStill, ClientsView}
use Rattle.mcv_clients.specs.Life.{ClientView}
use Rattle.mcv_clients.specs.Steps.{Asked, Goes}
use Rattle.mcv_clients.proofs.Tables.{clients_asked, clients_go, clients_refused, still_changed, still_on, wants}
use Rattle.mcv_clients.proofs.clients.Clients.ask_one.Goals as goal

-- it has none
pub invariant_of-self : goal.invariant_of-self
invariant_of-self g c =
    let i = c.self.inside in
    clients_go i.asking.desks i.asking.next i.hubs c.args.number i.clients c.next_request_at.new.clients i.room.items c.next_request_at.ensures.goes c.self.invariant

pub invariant_of-self-in-Some-ask : goal.invariant_of-self-in-Some-ask
invariant_of-self-in-Some-ask g c =
    let i = c.self.inside in
    let asked = c.in-Some-ask.ensures in
    clients_asked i.asking.desks c.ask.new.self.desks i.asking.next c.ask.new.self.next i.hubs c.args.number c.in-Some-ask.serial (request_value (arc_value c.in-Some.request)) i.clients c.next_request_at.new.clients c.note_asked_at.new.clients i.room.items
    c.next_request_at.ensures.goes c.in-Some.ensures.asks asked.number.0 asked.number.1 asked.fresh asked.asked c.note_asked_at.ensures c.self.invariant

pub returns-in-Some-ask-clause-still : goal.returns-in-Some-ask-clause-still
returns-in-Some-ask-clause-still g c =
    let i = c.self.inside in
    let mid = c.next_request_at.new.clients in
    let new = c.note_asked_at.new.clients in
    let number = c.args.number in
    let serial = c.in-Some-ask.serial in
    subst (λ (v : ClientsView). AreStill v.clients new) c.self.view_is
    (still_on i.clients mid new (still_changed Goes number i.clients mid (λ a b goes. goes.came) c.next_request_at.ensures.goes) (still_changed (Asked serial) number mid new (λ a b asked. ap (λ (v : ClientView). v.came) asked) c.note_asked_at.ensures))

pub refuse_at-requires : goal.refuse_at-requires
refuse_at-requires g c = wants c.next_request_at.new.clients c.args.number (request_value (arc_value c.in-Some.request)) c.in-Some.ensures.asks

pub invariant_of-self-in-None : goal.invariant_of-self-in-None
invariant_of-self-in-None g c =
    let i = c.self.inside in
    let none = c.in-None.ensures.none in
    clients_refused i.asking.desks c.ask.new.self.desks i.asking.next c.ask.new.self.next i.hubs c.args.number (Err Memory) i.clients c.next_request_at.new.clients c.refuse_at.new.clients i.room.items c.next_request_at.ensures.goes none.0 none.1 c.refuse_at.ensures c.self.invariant
