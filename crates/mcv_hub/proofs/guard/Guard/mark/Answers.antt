use Rattle.std.proofs.Common.{◌∙◌, subst}
use Rattle.mcv_core.specs.Events.{IsMarked}
use Rattle.mcv_core.specs.View.{core_view}
use Rattle.mcv_hub.specs.Events.{IsHubEvent}
use Rattle.mcv_hub.proofs.guard.Guard.mark.Goals as goal

pub returns : goal.returns
returns g c = subst (λ h. IsHubEvent (IsMarked (core_view h.core) c.args.server) h c.mark.new.self) (c.deref_mut.ensures.value ∙ c.self.view_is) c.mark.ensures
