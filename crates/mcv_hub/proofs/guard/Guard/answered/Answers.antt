use Rattle.std.proofs.Common.{◌∙◌, subst}
use Rattle.mcv_core.specs.Events.{IsAnsweredLeg}
use Rattle.mcv_core.specs.View.{core_view}
use Rattle.mcv_hub.specs.Events.{IsHubEvent}
use Rattle.mcv_hub.proofs.guard.Guard.answered.Goals as goal

pub returns : goal.returns
returns g c = subst (λ h. IsHubEvent (IsAnsweredLeg (core_view h.core) c.args.leg c.args.reply c.answered.result) h c.answered.new.self) (c.deref_mut.ensures.value ∙ c.self.view_is) c.answered.ensures
