use Rattle.std.proofs.Common.{subst, sym}
use Rattle.mcv_clients.proofs.Tables.{asks_at, changed_at, none_at}
use Rattle.mcv_clients.specs.Life.{ClientView}
use Rattle.mcv_clients.specs.Steps.{Goes}
use Rattle.mcv_clients.proofs.table.next_request_at.Goals as goal

pub returns-in_default-clause-goes : goal.returns-in_default-clause-goes
returns-in_default-clause-goes g c = none_at Goes c.args.clients.now c.args.number (sym c.in_default.ensures.value)

pub returns-clause-goes : goal.returns-clause-goes
returns-clause-goes g c = changed_at Goes c.args.clients.now c.args.number c.in-Some.client.now c.next_request.new.self (sym c.in-Some.ensures.value) (subst (λ (v : ClientView). Goes v c.next_request.new.self) c.note_room.ensures c.next_request.ensures.goes)

pub returns-clause-asks : goal.returns-clause-asks
returns-clause-asks g c = asks_at c.args.clients.now c.args.number c.in-Some.client.now c.next_request.new.self (sym c.in-Some.ensures.value) c.next_request.result c.next_request.ensures.free c.next_request.ensures.asks
