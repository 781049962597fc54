use Rattle.std.proofs.Common.{◌∙◌, subst}
use Rattle.mcv_hub.specs.Gate.{IsHubTurn}
use Rattle.mcv_hub.proofs.guard.Guard.turn.Goals as goal

pub returns : goal.returns
returns g c = subst (λ h. IsHubTurn h c.turn.result c.turn.new.self) (c.deref_mut.ensures.value ∙ c.self.view_is) c.turn.ensures
