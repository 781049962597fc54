use Rattle.std.proofs.Common.{subst, sym}
use Rattle.mcv_queues.specs.Flights.{AreFlying}
use Rattle.mcv_queues.specs.Rows.{legs}
use Rattle.mcv_queues.proofs.queues.Queues.in_flight.Goals as goal

pub returns-clause-counted : goal.returns-clause-counted
returns-clause-counted g c = subst (λ v. ∥ AreFlying (legs c.args.self.now.rows) c.args.server.0 v.flying ∥₁) (sym c.server.ensures) (c.args.self.now.sound.flying c.args.server.0)
