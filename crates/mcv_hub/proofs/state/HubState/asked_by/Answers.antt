use Rattle.std.proofs.Common.{◌∙◌, ap}
use Rattle.mcv_hub.proofs.AskedCalls.{is_call_of}
use Rattle.mcv_hub.proofs.state.HubState.asked_by.Goals as goal

pub returns-in-Some-clause-ok : goal.returns-in-Some-clause-ok
returns-in-Some-clause-ok g c =
    is_call_of c.args.self.now c.args.call.0 c.state.result.now c.call.result c.in-Some.view c.copied.result (c.state.ensures ∙ ap (λ v. v.core) c.self.view_is) c.call.ensures c.in-Some.is c.copied.ensures
