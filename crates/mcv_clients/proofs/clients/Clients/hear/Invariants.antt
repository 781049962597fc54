use Rattle.std.proofs.Common.{◌≡◌}
use Rattle.mcv_clients.specs.Clients.{AreStill}
use Rattle.mcv_clients.proofs.clients.Clients.hear.Given as goal

abbrev pub invariant-loop-piece : goal.invariant-loop-piece
invariant-loop-piece g l = record {
  still : AreStill l.fn.self.clients l.self.clients;
  hubs : l.self.desks.hubs ≡ l.fn.self.desks.hubs;
}
