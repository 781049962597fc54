use Rattle.std.proofs.Common.{◌≡◌}
use Rattle.mcv_clients.specs.Clients.{AreStill}
use Rattle.mcv_clients.proofs.clients.Clients.serve_each.Given as goal

abbrev pub invariant-loop-number : goal.invariant-loop-number
invariant-loop-number g l = record {
  still : AreStill l.fn.self.clients l.self.clients;
  hubs : l.self.desks.hubs ≡ l.fn.self.desks.hubs;
}
