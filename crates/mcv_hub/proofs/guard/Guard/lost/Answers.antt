use Rattle.std.proofs.Common.{◌∙◌, subst}
use Rattle.mcv_core.specs.Events.{IsLostLeg}
use Rattle.mcv_core.specs.View.{core_view}
use Rattle.mcv_hub.specs.Events.{IsHubEvent}
use Rattle.mcv_hub.proofs.guard.Guard.lost.Goals as goal

pub returns : goal.returns
returns g c = subst (λ h. IsHubEvent (IsLostLeg (core_view h.core) c.args.leg c.lost.result) h c.lost.new.self) (c.deref_mut.ensures.value ∙ c.self.view_is) c.lost.ensures
