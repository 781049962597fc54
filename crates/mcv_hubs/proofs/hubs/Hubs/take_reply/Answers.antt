use Rattle.std.proofs.Common.{arith, refl, subst, sym}
use Rattle.mcv_hubs.proofs.Counting.{at0, at1, at2, at3, at4, at5, at6, at7, at_none}
use Rattle.mcv_hubs.specs.Taken.{WasTaken}
use Rattle.mcv_hubs.proofs.hubs.Hubs.take_reply.Goals as goal

pub returns-in-0-clause-counted : goal.returns-in-0-clause-counted
returns-in-0-clause-counted g c = rw (← c.seats.view_is) (at0 _ _ _ _ _ _ _ _ _ _ _ c.in-0.is c.take_reply.ensures.counted)

pub returns-in-1-clause-counted : goal.returns-in-1-clause-counted
returns-in-1-clause-counted g c = rw (← c.seats.view_is) (at1 _ _ _ _ _ _ _ _ _ _ _ c.in-1.is c.take_reply-in-1.ensures.counted)

pub returns-in-2-clause-counted : goal.returns-in-2-clause-counted
returns-in-2-clause-counted g c = rw (← c.seats.view_is) (at2 _ _ _ _ _ _ _ _ _ _ _ c.in-2.is c.take_reply-in-2.ensures.counted)

pub returns-in-3-clause-counted : goal.returns-in-3-clause-counted
returns-in-3-clause-counted g c = rw (← c.seats.view_is) (at3 _ _ _ _ _ _ _ _ _ _ _ c.in-3.is c.take_reply-in-3.ensures.counted)

pub returns-in-4-clause-counted : goal.returns-in-4-clause-counted
returns-in-4-clause-counted g c = rw (← c.seats.view_is) (at4 _ _ _ _ _ _ _ _ _ _ _ c.in-4.is c.take_reply-in-4.ensures.counted)

pub returns-in-5-clause-counted : goal.returns-in-5-clause-counted
returns-in-5-clause-counted g c = rw (← c.seats.view_is) (at5 _ _ _ _ _ _ _ _ _ _ _ c.in-5.is c.take_reply-in-5.ensures.counted)

pub returns-in-6-clause-counted : goal.returns-in-6-clause-counted
returns-in-6-clause-counted g c = rw (← c.seats.view_is) (at6 _ _ _ _ _ _ _ _ _ _ _ c.in-6.is c.take_reply-in-6.ensures.counted)

pub returns-in-7-clause-counted : goal.returns-in-7-clause-counted
returns-in-7-clause-counted g c = rw (← c.seats.view_is) (at7 _ _ _ _ _ _ _ _ _ _ _ c.in-7.is c.take_reply-in-7.ensures.counted)

-- there is no such hub
pub returns-in_default-clause-counted : goal.returns-in_default-clause-counted
returns-in_default-clause-counted g c = at_none _ (λ t. refl) _ _

pub returns-in-0-clause-event : goal.returns-in-0-clause-event
returns-in-0-clause-event g c = λ there. subst (λ hub. WasTaken hub c.args.call.call c.take_reply.result) (sym c.in-0.is) c.take_reply.ensures.event

pub returns-in-1-clause-event : goal.returns-in-1-clause-event
returns-in-1-clause-event g c = λ there. subst (λ hub. WasTaken hub c.args.call.call c.take_reply-in-1.result) (sym c.in-1.is) c.take_reply-in-1.ensures.event

pub returns-in-2-clause-event : goal.returns-in-2-clause-event
returns-in-2-clause-event g c = λ there. subst (λ hub. WasTaken hub c.args.call.call c.take_reply-in-2.result) (sym c.in-2.is) c.take_reply-in-2.ensures.event

pub returns-in-3-clause-event : goal.returns-in-3-clause-event
returns-in-3-clause-event g c = λ there. subst (λ hub. WasTaken hub c.args.call.call c.take_reply-in-3.result) (sym c.in-3.is) c.take_reply-in-3.ensures.event

pub returns-in-4-clause-event : goal.returns-in-4-clause-event
returns-in-4-clause-event g c = λ there. subst (λ hub. WasTaken hub c.args.call.call c.take_reply-in-4.result) (sym c.in-4.is) c.take_reply-in-4.ensures.event

pub returns-in-5-clause-event : goal.returns-in-5-clause-event
returns-in-5-clause-event g c = λ there. subst (λ hub. WasTaken hub c.args.call.call c.take_reply-in-5.result) (sym c.in-5.is) c.take_reply-in-5.ensures.event

pub returns-in-6-clause-event : goal.returns-in-6-clause-event
returns-in-6-clause-event g c = λ there. subst (λ hub. WasTaken hub c.args.call.call c.take_reply-in-6.result) (sym c.in-6.is) c.take_reply-in-6.ensures.event

pub returns-in-7-clause-event : goal.returns-in-7-clause-event
returns-in-7-clause-event g c = λ there. subst (λ hub. WasTaken hub c.args.call.call c.take_reply-in-7.result) (sym c.in-7.is) c.take_reply-in-7.ensures.event

pub returns-in_default-clause-event : goal.returns-in_default-clause-event
returns-in_default-clause-event g c = λ there. absurd (omega (arith, there))

pub returns-in-0-clause-unknown : goal.returns-in-0-clause-unknown
returns-in-0-clause-unknown g c = λ far. absurd (omega (arith, far))

pub returns-in-1-clause-unknown : goal.returns-in-1-clause-unknown
returns-in-1-clause-unknown g c = λ far. absurd (omega (arith, far))

pub returns-in-2-clause-unknown : goal.returns-in-2-clause-unknown
returns-in-2-clause-unknown g c = λ far. absurd (omega (arith, far))

pub returns-in-3-clause-unknown : goal.returns-in-3-clause-unknown
returns-in-3-clause-unknown g c = λ far. absurd (omega (arith, far))

pub returns-in-4-clause-unknown : goal.returns-in-4-clause-unknown
returns-in-4-clause-unknown g c = λ far. absurd (omega (arith, far))

pub returns-in-5-clause-unknown : goal.returns-in-5-clause-unknown
returns-in-5-clause-unknown g c = λ far. absurd (omega (arith, far))

pub returns-in-6-clause-unknown : goal.returns-in-6-clause-unknown
returns-in-6-clause-unknown g c = λ far. absurd (omega (arith, far))

pub returns-in-7-clause-unknown : goal.returns-in-7-clause-unknown
returns-in-7-clause-unknown g c = λ far. absurd (omega (arith, far))
