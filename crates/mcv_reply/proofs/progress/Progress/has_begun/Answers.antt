use Rattle.std.proofs.Common.{refl}
use Rattle.mcv_reply.proofs.FlightSteps.{value_come}
use Rattle.mcv_reply.proofs.progress.Progress.has_begun.Goals as goal

pub returns-in-Value : goal.returns-in-Value
returns-in-Value c = (λ _. value_come c.args.self.now.stage c.args.self.now c.in-Value.is, λ _. refl)
