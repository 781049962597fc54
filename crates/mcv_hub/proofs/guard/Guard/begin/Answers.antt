use Rattle.std.proofs.Common.{◌≡◌, ◌∙◌, ◌+◌, subst}
use Rattle.std.specs.Prelude.{OnOk}
use Rattle.std.specs.Arc.{arc_value}
use Rattle.mcv_hub.specs.Events.{IsRequested}
use Rattle.mcv_hub.specs.Gate.{IsHubBegun}
use Rattle.mcv_hub.specs.State.{HubView}
use Rattle.mcv_hub.proofs.guard.Guard.begin.Goals as goal

pub returns-clause-event : goal.returns-clause-event
returns-clause-event g c = subst (λ h. IsHubBegun h (arc_value c.args.request) c.args.key c.begin.result c.begin.new.self) (c.deref_mut.ensures.value ∙ c.self.view_is) c.begin.ensures.event

pub returns-clause-entry : goal.returns-clause-entry
returns-clause-entry g c = subst (λ h. OnOk c.begin.result (IsRequested h c.begin.new.self c.args.request c.args.key)) (c.deref_mut.ensures.value ∙ c.self.view_is) c.begin.ensures.entry

pub returns-clause-begun : goal.returns-clause-begun
returns-clause-begun g c = subst (λ (h : HubView). c.begin.new.seat.begun.amount + h.begun ≡ c.args.seat.now.begun.amount + c.begin.new.self.begun) (c.deref_mut.ensures.value ∙ c.self.view_is) c.begin.ensures.begun

pub returns-clause-taken : goal.returns-clause-taken
returns-clause-taken g c = subst (λ (h : HubView). c.begin.new.seat.taken.amount + h.taken ≡ c.args.seat.now.taken.amount + c.begin.new.self.taken) (c.deref_mut.ensures.value ∙ c.self.view_is) c.begin.ensures.taken
