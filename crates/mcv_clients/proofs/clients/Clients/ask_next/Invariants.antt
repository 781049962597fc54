use Rattle.std.proofs.Common.{◌≡◌}
use Rattle.mcv_clients.specs.Clients.{AreStill}
use Rattle.mcv_clients.proofs.clients.Clients.ask_next.Given as goal

abbrev pub invariant-loop-request : goal.invariant-loop-request
invariant-loop-request g l = record {
  still : AreStill l.fn.self.clients l.self.clients;
  hubs : l.self.desks.hubs ≡ l.fn.self.desks.hubs;
}
