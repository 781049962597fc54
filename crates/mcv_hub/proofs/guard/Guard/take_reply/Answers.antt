use Rattle.std.proofs.Common.{◌≡◌, ◌∙◌, ◌+◌, subst}
use Rattle.std.specs.Prelude.{IfOk, IfSome}
use Rattle.mcv_core.specs.Events.{IsTaken}
use Rattle.mcv_core.specs.View.{core_view}
use Rattle.mcv_hub.specs.Events.{IsHubEvent, IsReceived, taken_part}
use Rattle.mcv_hub.specs.State.{HubView}
use Rattle.mcv_hub.proofs.guard.Guard.take_reply.Goals as goal

pub returns-clause-event : goal.returns-clause-event
returns-clause-event g c = subst (λ h. IsHubEvent (IsTaken (core_view h.core) c.args.call (taken_part c.take_reply.result)) h c.take_reply.new.self) (c.deref_mut.ensures.value ∙ c.self.view_is) c.take_reply.ensures.event

pub returns-clause-receipt : goal.returns-clause-receipt
returns-clause-receipt g c = subst (λ h. IfOk c.take_reply.result (λ o. IfSome o (IsReceived h c.args.call))) (c.deref_mut.ensures.value ∙ c.self.view_is) c.take_reply.ensures.receipt

pub returns-clause-begun : goal.returns-clause-begun
returns-clause-begun g c = subst (λ (h : HubView). c.take_reply.new.seat.begun.amount + h.begun ≡ c.args.seat.now.begun.amount + c.take_reply.new.self.begun) (c.deref_mut.ensures.value ∙ c.self.view_is) c.take_reply.ensures.begun

pub returns-clause-taken : goal.returns-clause-taken
returns-clause-taken g c = subst (λ (h : HubView). c.take_reply.new.seat.taken.amount + h.taken ≡ c.args.seat.now.taken.amount + c.take_reply.new.self.taken) (c.deref_mut.ensures.value ∙ c.self.view_is) c.take_reply.ensures.taken
