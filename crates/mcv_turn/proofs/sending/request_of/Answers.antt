use Rattle.mcv_core.specs.Requests.{asked_at}
use Rattle.mcv_turn.proofs.Legs.{request_is}
use Rattle.mcv_turn.proofs.sending.request_of.Goals as goal

pub returns-in-Ok : goal.returns-in-Ok
returns-in-Ok c = request_is c.in-Ok.request (asked_at c.args.core.now c.args.leg.0) c.in-Ok.ensures
