use Rattle.std.proofs.Common.{inl, inr, refl, sym}
use Rattle.mcv_clients.proofs.Tables.{changed_at, none_at}
use Rattle.mcv_session.specs.Desk.{answer_value}
use Rattle.mcv_clients.specs.Steps.{ToldIf}
use Rattle.mcv_clients.proofs.table.answer_at.Goals as goal

pub returns-in_default : goal.returns-in_default
returns-in_default g c = none_at (ToldIf c.args.serial (answer_value c.args.outcome)) c.args.clients.now c.args.number (sym c.in_default.ensures.value)

pub returns-then-not-awaits : goal.returns-then-not-awaits
returns-then-not-awaits g c = changed_at (ToldIf c.args.serial (answer_value c.args.outcome)) c.args.clients.now c.args.number c.in-Some.client.now c.in-Some.client.now (sym c.in-Some.ensures.value) (inl refl)

pub answer-requires : goal.answer-requires
answer-requires g c = c.requires c.in-Some.client.now (sym c.in-Some.ensures.value) (c.awaits.ensures c.if-not-awaits.false)

pub returns : goal.returns
returns g c = changed_at (ToldIf c.args.serial (answer_value c.args.outcome)) c.args.clients.now c.args.number c.in-Some.client.now c.answer.new.self (sym c.in-Some.ensures.value) (inr (c.awaits.ensures c.if-not-awaits.false, c.answer.ensures))
