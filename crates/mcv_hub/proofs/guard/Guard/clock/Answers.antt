use Rattle.std.proofs.Common.{◌∙◌, subst}
use Rattle.mcv_core.specs.Events.{IsClocked}
use Rattle.mcv_core.specs.View.{core_view}
use Rattle.mcv_hub.specs.Events.{IsHubEvent}
use Rattle.mcv_hub.proofs.guard.Guard.clock.Goals as goal

pub returns : goal.returns
returns g c = subst (λ h. IsHubEvent (IsClocked (core_view h.core) c.args.moment c.clock.result) h c.clock.new.self) (c.deref_mut.ensures.value ∙ c.self.view_is) c.clock.ensures
