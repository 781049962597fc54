use Rattle.std.proofs.Common.{◌∙◌, subst}
use Rattle.mcv_core.specs.Events.{IsUnmarked}
use Rattle.mcv_core.specs.View.{core_view}
use Rattle.mcv_hub.specs.Events.{IsHubEvent}
use Rattle.mcv_hub.proofs.guard.Guard.unmark.Goals as goal

pub returns : goal.returns
returns g c = subst (λ h. IsHubEvent (IsUnmarked (core_view h.core) c.args.server) h c.unmark.new.self) (c.deref_mut.ensures.value ∙ c.self.view_is) c.unmark.ensures
