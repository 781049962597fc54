use Rattle.std.proofs.Common.{◌≤◌, subst, sym}
use Rattle.mcv_core.specs.Flights.{AreInFlight}
use Rattle.mcv_core.specs.View.{core_view}
use Rattle.mcv_core.proofs.FlightsAreCounted.{flights_are_counted}
use Rattle.mcv_core.proofs.dispatcher.Dispatcher.in_flight.Goals as goal

pub returns-clause-counted : goal.returns-clause-counted
returns-clause-counted c = subst (λ v. ∥ AreInFlight (core_view c.args.self.now).rows c.args.server.0 v ∥₁) (sym c.in_flight.ensures.flights) (flights_are_counted c.args.self.now c.args.server.0)

pub returns-clause-within : goal.returns-clause-within
returns-clause-within c = subst (λ v. v ≤ c.args.self.now.limit) (sym c.in_flight.ensures.flights) (c.args.self.now.within c.args.server.0)
