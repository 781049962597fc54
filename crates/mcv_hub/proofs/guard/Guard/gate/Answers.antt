use Rattle.std.proofs.Common.{◌∙◌, subst}
use Rattle.mcv_hub.specs.Gate.{IsGate}
use Rattle.mcv_hub.proofs.guard.Guard.gate.Goals as goal

pub returns : goal.returns
returns g c = subst (λ h. IsGate h c.gate.result c.gate.new.self) (c.deref_mut.ensures.value ∙ c.self.view_is) c.gate.ensures
