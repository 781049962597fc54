use Rattle.std.proofs.Common.{◌∙◌, subst}
use Rattle.mcv_core.specs.Events.{IsReplay}
use Rattle.mcv_core.specs.View.{core_view}
use Rattle.mcv_hub.specs.Events.{IsHubEvent}
use Rattle.mcv_hub.proofs.guard.Guard.replay.Goals as goal

pub returns : goal.returns
returns g c = subst (λ h. IsHubEvent (IsReplay (core_view h.core) c.args.server c.replay.result) h c.replay.new.self) (c.deref_mut.ensures.value ∙ c.self.view_is) c.replay.ensures
