use Rattle.std.proofs.Common.{refl, subst}
use Rattle.mcv_hubs.specs.Choice.{IsHubOf}
use Rattle.mcv_hubs.proofs.hubs.Hubs.begin.Goals as goal

pub returns-in-Ok : goal.returns-in-Ok
returns-in-Ok g c =
    record {
      hub = c.hub_of_key-hub.result;
      of_key = subst (λ r. IsHubOf c.args.self.now.choice r c.args.asked.1 c.hub_of_key-hub.result) c.deref.ensures c.hub_of_key-hub.ensures.hub;
      named = refl;
      event = c.in-Ok.ensures.event;
      counted = c.in-Ok.ensures.counted;
    }

pub returns-in-Err : goal.returns-in-Err
returns-in-Err g c =
    record {
      hub = c.hub_of_key-hub.result;
      of_key = subst (λ r. IsHubOf c.args.self.now.choice r c.args.asked.1 c.hub_of_key-hub.result) c.deref.ensures c.hub_of_key-hub.ensures.hub;
      named = tt;
      event = c.in-Err.ensures.event;
      counted = c.in-Err.ensures.counted;
    }
