use Rattle.std.proofs.Common.{arith, subst, sym}
use Rattle.std.specs.Arc.{arc_value}
use Rattle.mcv_hubs.proofs.Counting.{at0, at1, at2, at3, at4, at5, at6, at7}
use Rattle.mcv_hubs.specs.Taken.{WasBegun}
use Rattle.mcv_hubs.proofs.hubs.Hubs.begin_at.Goals as goal

pub returns-in-0-clause-counted : goal.returns-in-0-clause-counted
returns-in-0-clause-counted g c = rw (← c.seats.view_is) (at0 _ _ _ _ _ _ _ _ _ _ _ c.in-0.is c.begin.ensures.counted)

pub returns-in-1-clause-counted : goal.returns-in-1-clause-counted
returns-in-1-clause-counted g c = rw (← c.seats.view_is) (at1 _ _ _ _ _ _ _ _ _ _ _ c.in-1.is c.begin-in-1.ensures.counted)

pub returns-in-2-clause-counted : goal.returns-in-2-clause-counted
returns-in-2-clause-counted g c = rw (← c.seats.view_is) (at2 _ _ _ _ _ _ _ _ _ _ _ c.in-2.is c.begin-in-2.ensures.counted)

pub returns-in-3-clause-counted : goal.returns-in-3-clause-counted
returns-in-3-clause-counted g c = rw (← c.seats.view_is) (at3 _ _ _ _ _ _ _ _ _ _ _ c.in-3.is c.begin-in-3.ensures.counted)

pub returns-in-4-clause-counted : goal.returns-in-4-clause-counted
returns-in-4-clause-counted g c = rw (← c.seats.view_is) (at4 _ _ _ _ _ _ _ _ _ _ _ c.in-4.is c.begin-in-4.ensures.counted)

pub returns-in-5-clause-counted : goal.returns-in-5-clause-counted
returns-in-5-clause-counted g c = rw (← c.seats.view_is) (at5 _ _ _ _ _ _ _ _ _ _ _ c.in-5.is c.begin-in-5.ensures.counted)

pub returns-in-6-clause-counted : goal.returns-in-6-clause-counted
returns-in-6-clause-counted g c = rw (← c.seats.view_is) (at6 _ _ _ _ _ _ _ _ _ _ _ c.in-6.is c.begin-in-6.ensures.counted)

pub returns-in_default-clause-counted : goal.returns-in_default-clause-counted
returns-in_default-clause-counted g c = rw (← c.seats.view_is) (at7 _ _ _ _ _ _ _ _ _ _ _ (omega (arith, c.requires)) c.begin-in_default.ensures.counted)

pub returns-in-0-clause-event : goal.returns-in-0-clause-event
returns-in-0-clause-event g c = subst (λ hub. WasBegun hub (arc_value c.args.asked.0) c.args.asked.1 c.begin.result) (sym c.in-0.is) c.begin.ensures.event

pub returns-in-1-clause-event : goal.returns-in-1-clause-event
returns-in-1-clause-event g c = subst (λ hub. WasBegun hub (arc_value c.args.asked.0) c.args.asked.1 c.begin-in-1.result) (sym c.in-1.is) c.begin-in-1.ensures.event

pub returns-in-2-clause-event : goal.returns-in-2-clause-event
returns-in-2-clause-event g c = subst (λ hub. WasBegun hub (arc_value c.args.asked.0) c.args.asked.1 c.begin-in-2.result) (sym c.in-2.is) c.begin-in-2.ensures.event

pub returns-in-3-clause-event : goal.returns-in-3-clause-event
returns-in-3-clause-event g c = subst (λ hub. WasBegun hub (arc_value c.args.asked.0) c.args.asked.1 c.begin-in-3.result) (sym c.in-3.is) c.begin-in-3.ensures.event

pub returns-in-4-clause-event : goal.returns-in-4-clause-event
returns-in-4-clause-event g c = subst (λ hub. WasBegun hub (arc_value c.args.asked.0) c.args.asked.1 c.begin-in-4.result) (sym c.in-4.is) c.begin-in-4.ensures.event

pub returns-in-5-clause-event : goal.returns-in-5-clause-event
returns-in-5-clause-event g c = subst (λ hub. WasBegun hub (arc_value c.args.asked.0) c.args.asked.1 c.begin-in-5.result) (sym c.in-5.is) c.begin-in-5.ensures.event

pub returns-in-6-clause-event : goal.returns-in-6-clause-event
returns-in-6-clause-event g c = subst (λ hub. WasBegun hub (arc_value c.args.asked.0) c.args.asked.1 c.begin-in-6.result) (sym c.in-6.is) c.begin-in-6.ensures.event

pub returns-in_default-clause-event : goal.returns-in_default-clause-event
returns-in_default-clause-event g c = subst (λ hub. WasBegun hub (arc_value c.args.asked.0) c.args.asked.1 c.begin-in_default.result) (sym (omega (arith, c.requires))) c.begin-in_default.ensures.event
