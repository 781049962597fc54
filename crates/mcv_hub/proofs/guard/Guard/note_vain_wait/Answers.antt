use Rattle.std.proofs.Common.{◌∙◌, subst}
use Rattle.mcv_hub.specs.State.{IsSame}
use Rattle.mcv_hub.proofs.guard.Guard.note_vain_wait.Goals as goal

pub returns : goal.returns
returns g c = subst (λ h. IsSame h c.note_vain_wait.new.self) (c.deref_mut.ensures.value ∙ c.self.view_is) c.note_vain_wait.ensures
