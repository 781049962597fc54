use Rattle.std.proofs.Common.{◌≡◌, ◌∙◌, ◌+◌, ◌-◌, refl, sym, ap, subst, false, arith}
use Rattle.mcv_queues.specs.Legs.{is_flight, is_in_flight, is_in_flight_to}
use Rattle.mcv_queues.specs.Queues.{in_flight, legs}
use Rattle.mcv_queues.specs.declared.leg.State.TheVariants as states
use Rattle.mcv_core.specs.CoreView.{HasDone, at_row, replayed_in, step_to}
use Rattle.mcv_core.specs.View.{core_view}
use Rattle.mcv_core.specs.declared.step.Change.TheVariants as changes
use Rattle.mcv_core.specs.declared.step.LegState.TheVariants as leg_states
use Rattle.mcv_core.proofs.Landings.{stated}
use Rattle.mcv_core.proofs.FlightsStayWithin
use Rattle.mcv_core.proofs.LegViews
use Rattle.mcv_core.proofs.dispatcher.Dispatcher.perform.Goals as goal

pub gone-requires : goal.gone-requires
gone-requires c =
    let l = stated (legs c.args.self.now.queues c.args.leg.0) states.InReplay c.requires in
    record { there = ap is_in_flight l.at ∙ ap is_flight l.is }

pub performed-self-requires : goal.performed-self-requires
performed-self-requires c =
    let d = c.args.self.now in
    let l = stated (legs d.queues c.args.leg.0) states.InReplay c.requires in
    LegViews.some_spooled d c.args.leg.0 l.leg l.at l.is

pub invariant_of-self : goal.invariant_of-self
invariant_of-self c =
    let d = c.args.self.now in
    let l = stated (legs d.queues c.args.leg.0) states.InReplay c.requires in
    let some = LegViews.some_spooled d c.args.leg.0 l.leg l.at l.is in
    let less : c.performed-self.result.spooled + 1 ≡ d.counts.spooled = let e : c.performed-self.result.spooled ≡ d.counts.spooled - 1 = ap (λ v. v.spooled) c.performed-self.ensures in omega (arith, e, some) in
    record {
      sound = subst (λ v. LegViews.IsSoundBy d c.gone.new.self v) (sym c.performed-self.ensures)
          (LegViews.sound_gone d c.args.leg.0 l.leg l.at l.is c.gone.new.self c.gone.ensures.legs c.gone.ensures.room c.gone.ensures.servers (d.counts.spooled - 1) (omega (arith, some)));
      table = d.table;
      within = FlightsStayWithin.landed_within (in_flight d.queues) (in_flight c.gone.new.self) d.limit (λ s. is_in_flight_to s (legs d.queues c.args.leg.0)) d.within c.gone.ensures.flights;
    }

pub returns : goal.returns
returns c =
    let d = c.args.self.now in
    let l = stated (legs d.queues c.args.leg.0) states.InReplay c.requires in
    subst (λ o. HasDone (at_row (replayed_in (core_view d) c.args.leg.0 false) o) (LegViews.view_with d c.gone.new.self) (step_to leg_states.Performed changes.Performed)) (sym (LegViews.there d c.args.leg.0 l.leg l.at))
    (refl, LegViews.gone_view d c.args.leg.0 l.leg l.at c.gone.new.self c.gone.ensures.legs (ap is_flight l.is) c.gone.ensures.flights)
