use Rattle.std.proofs.Common.{◌∙◌}
use Rattle.mcv_hubs.proofs.Keys.{hub_by_symbol}
use Rattle.mcv_hubs.proofs.choice.HubChoice.hub_of_bytes.Goals as goal

pub returns-clause-hub : goal.returns-clause-hub
returns-clause-hub c = rw (← c.self.view_is) (c.index.ensures ∙ hub_by_symbol c.self.inside.symbol c.args.rest.now c.self.invariant.0)
