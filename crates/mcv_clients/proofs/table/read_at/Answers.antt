use Rattle.std.proofs.Common.{sym}
use Rattle.mcv_clients.proofs.Tables.{changed_at, none_at}
use Rattle.mcv_clients.specs.Steps.{Goes}
use Rattle.mcv_clients.proofs.table.read_at.Goals as goal

pub returns-in_default : goal.returns-in_default
returns-in_default g c = none_at Goes c.args.clients.now c.args.number (sym c.in_default.ensures.value)

pub returns : goal.returns
returns g c = changed_at Goes c.args.clients.now c.args.number c.in-Some.client.now c.read.new.self (sym c.in-Some.ensures.value) c.read.ensures
