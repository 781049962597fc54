use Rattle.std.proofs.Common.{refl, sym}
use Rattle.mcv_clients.proofs.Tables.{same_at}
use Rattle.mcv_clients.proofs.table.touch_at.Goals as goal

pub returns-in_default : goal.returns-in_default
returns-in_default g c = λ number. refl

pub returns : goal.returns
returns g c = same_at c.args.clients.now c.args.number c.in-Some.client.now c.touch.new.self (sym c.in-Some.ensures.value) c.touch.ensures
