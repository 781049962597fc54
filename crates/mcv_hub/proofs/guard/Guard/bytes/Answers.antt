use Rattle.std.proofs.Common.{◌∙◌, ap}
use Rattle.mcv_hub.specs.State.{HubView}
use Rattle.mcv_hub.specs.Weights.{bytes_of}
use Rattle.mcv_hub.proofs.guard.Guard.bytes.Goals as goal

pub returns : goal.returns
returns g c = c.bytes.ensures ∙ ap (λ (v : HubView). bytes_of v.history) (c.deref.ensures ∙ c.self.view_is)
