use Rattle.std.proofs.Common.{◌≡◌}
use Rattle.mcv_clients.specs.Clients.{AreStill}
use Rattle.mcv_clients.proofs.clients.Clients.answer_all.Given as goal

abbrev pub invariant-loop-answer : goal.invariant-loop-answer
invariant-loop-answer g l = record {
  still : AreStill l.fn.self.clients l.self.clients;
  hubs : l.self.desks.hubs ≡ l.fn.self.desks.hubs;
}
