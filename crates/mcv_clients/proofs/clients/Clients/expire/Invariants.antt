use Rattle.std.proofs.Common.{◌≡◌}
use Rattle.mcv_clients.specs.Clients.{AreLeft, AskersStay}
use Rattle.mcv_clients.proofs.clients.Clients.expire.Given as goal

abbrev pub invariant-loop-number : goal.invariant-loop-number
invariant-loop-number g l = record {
  left : AreLeft l.fn.self.clients l.self.clients;
  askers : AskersStay l.fn.self.clients l.self.clients;
  desks : l.self.desks ≡ l.fn.self.desks;
}
