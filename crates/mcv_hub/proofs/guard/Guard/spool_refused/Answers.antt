use Rattle.std.proofs.Common.{◌∙◌, subst}
use Rattle.mcv_core.specs.Events.{IsRefusedLeg}
use Rattle.mcv_core.specs.View.{core_view}
use Rattle.mcv_hub.specs.Events.{IsHubEvent}
use Rattle.mcv_hub.proofs.guard.Guard.spool_refused.Goals as goal

pub returns : goal.returns
returns g c = subst (λ h. IsHubEvent (IsRefusedLeg (core_view h.core) c.args.leg c.spool_refused.result) h c.spool_refused.new.self) (c.deref_mut.ensures.value ∙ c.self.view_is) c.spool_refused.ensures
