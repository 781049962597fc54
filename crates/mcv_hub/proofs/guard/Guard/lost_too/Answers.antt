use Rattle.std.proofs.Common.{◌∙◌, subst}
use Rattle.mcv_core.specs.Events.{IsLostTooLeg}
use Rattle.mcv_core.specs.View.{core_view}
use Rattle.mcv_hub.specs.Events.{IsHubEvent}
use Rattle.mcv_hub.proofs.guard.Guard.lost_too.Goals as goal

pub returns : goal.returns
returns g c = subst (λ h. IsHubEvent (IsLostTooLeg (core_view h.core) c.args.leg c.lost_too.result) h c.lost_too.new.self) (c.deref_mut.ensures.value ∙ c.self.view_is) c.lost_too.ensures
