use Rattle.mcv_hubs.specs.Choice.{keyed}
use Rattle.mcv_hubs.proofs.choice.HubChoice.hub_of_key.Goals as goal

pub returns-in-Some-clause-hub : goal.returns-in-Some-clause-hub
returns-in-Some-clause-hub c = keyed c.in-Some.rest.now (record { op = c.in-Some._op; prefix = c.in-Some._prefix.now; is = c.in-Some.ensures.some }) c.hub_of_bytes.ensures.hub
