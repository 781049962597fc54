use Rattle.std.proofs.Common.{◌∙◌, subst}
use Rattle.mcv_core.specs.Events.{IsSpooledLeg}
use Rattle.mcv_core.specs.View.{core_view}
use Rattle.mcv_hub.specs.Events.{IsHubEvent}
use Rattle.mcv_hub.proofs.guard.Guard.spooled.Goals as goal

pub returns : goal.returns
returns g c = subst (λ h. IsHubEvent (IsSpooledLeg (core_view h.core) c.args.leg c.args.stored c.spooled.result) h c.spooled.new.self) (c.deref_mut.ensures.value ∙ c.self.view_is) c.spooled.ensures
