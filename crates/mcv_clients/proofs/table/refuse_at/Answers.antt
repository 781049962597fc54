use Rattle.std.proofs.Common.{Err, sym}
use Rattle.mcv_clients.proofs.Tables.{changed_at, none_at, refused_for}
use Rattle.mcv_session.specs.declared.desk.DeskFault.TheVariants.{Memory}
use Rattle.mcv_clients.specs.Steps.{Told}
use Rattle.mcv_clients.proofs.table.refuse_at.Goals as goal

pub returns-in_default : goal.returns-in_default
returns-in_default g c = none_at (Told (Err Memory)) c.args.clients.now c.args.number (sym c.in_default.ensures.value)

pub answer-requires : goal.answer-requires
answer-requires g c = refused_for g.F.HubNames.opened_of c.in-Some.client.now (c.requires c.in-Some.client.now (sym c.in-Some.ensures.value))

pub returns : goal.returns
returns g c = changed_at (Told (Err Memory)) c.args.clients.now c.args.number c.in-Some.client.now c.answer.new.self (sym c.in-Some.ensures.value) c.answer.ensures
