use Rattle.std.proofs.Common.{◌∙◌, refl}
use Rattle.mcv_clients.proofs.Tables.{still_on, still_same}
use Rattle.mcv_clients.proofs.clients.Clients.serve_each.Goals as goal

pub loop-number-init : goal.loop-number-init
loop-number-init g c = record { still = still_same c.args.self.now.clients; hubs = refl }

pub loop-number-preserved : goal.loop-number-preserved
loop-number-preserved g c = record {
  still = still_on c.args.self.now.clients c.loop-number.self.clients c.serve.new.self.clients c.loop-number.invariant.still c.serve.ensures.still;
  hubs = c.serve.ensures.hubs ∙ c.loop-number.invariant.hubs;
}
