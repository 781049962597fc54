use Rattle.std.proofs.Common.{refl}
use Rattle.mcv_core.proofs.Readings
use Rattle.mcv_core.proofs.dispatcher.Dispatcher.held.Goals as goal

pub returns-in-Some : goal.returns-in-Some
returns-in-Some c = Readings.first_held c.args.self.now c.in-Some.leg.0 c.in-Some.ensures.some

pub returns-in-None : goal.returns-in-None
returns-in-None c = Readings.none_held c.args.self.now (c.in-None.ensures.none refl).0 (c.in-None.ensures.none refl).1
