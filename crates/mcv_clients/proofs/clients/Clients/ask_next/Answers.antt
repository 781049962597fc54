use Rattle.std.proofs.Common.{◌∙◌, refl}
use Rattle.mcv_clients.proofs.Tables.{still_on, still_same}
use Rattle.mcv_clients.proofs.clients.Clients.ask_next.Goals as goal

pub loop-request-init : goal.loop-request-init
loop-request-init g c = record { still = still_same c.args.self.now.clients; hubs = refl }

pub loop-request-preserved : goal.loop-request-preserved
loop-request-preserved g c = record {
  still = still_on c.args.self.now.clients c.loop-request.self.clients c.ask_one.new.self.clients c.loop-request.invariant.still c.ask_one.ensures.still;
  hubs = c.ask_one.ensures.hubs ∙ c.loop-request.invariant.hubs;
}

pub returns-then-not-ask_one-clause-still : goal.returns-then-not-ask_one-clause-still
returns-then-not-ask_one-clause-still g c = still_on c.args.self.now.clients c.loop-request.self.clients c.ask_one.new.self.clients c.loop-request.invariant.still c.ask_one.ensures.still

pub returns-then-not-ask_one-clause-hubs : goal.returns-then-not-ask_one-clause-hubs
returns-then-not-ask_one-clause-hubs g c = c.ask_one.ensures.hubs ∙ c.loop-request.invariant.hubs
