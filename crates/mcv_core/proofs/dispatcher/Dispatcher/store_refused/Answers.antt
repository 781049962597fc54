use Rattle.std.proofs.Common.{◌∙◌, ◌-◌, refl, sym, ap, subst, arith}
use Rattle.mcv_queues.specs.Legs.{is_flight, is_in_flight}
use Rattle.mcv_queues.specs.Queues.{in_flight, legs}
use Rattle.mcv_queues.specs.declared.leg.State.TheVariants as states
use Rattle.mcv_core.specs.CoreView.{HasDone, at_row, step_to, stores}
use Rattle.mcv_core.specs.Rows.{state_of}
use Rattle.mcv_core.specs.View.{core_view}
use Rattle.mcv_core.specs.declared.step.Change.TheVariants as changes
use Rattle.mcv_core.specs.declared.step.LegState.TheVariants as leg_states
use Rattle.mcv_events.specs.QueuedLegs.{count_in}
use Rattle.mcv_core.specs.Soundness.{spooled_in}
use Rattle.mcv_core.proofs.FlightsStayWithin
use Rattle.mcv_core.proofs.Landings
use Rattle.mcv_core.proofs.Landings.{stated}
use Rattle.mcv_core.proofs.LegViews
use Rattle.mcv_core.proofs.dispatcher.Dispatcher.store_refused.Goals as goal

pub spooled-requires : goal.spooled-requires
spooled-requires c =
    let l = stated (legs c.args.self.now.queues c.args.leg.0) states.Refused c.requires in
    ap is_in_flight l.at ∙ ap is_flight l.is

pub stored-self-requires : goal.stored-self-requires
stored-self-requires c =
    let d = c.args.self.now in
    let l = stated (legs d.queues c.args.leg.0) states.Refused c.requires in
    record { queued = LegViews.some_queued d c.args.leg.0 l.leg l.at (ap (λ t. count_in (state_of t)) l.is); fits = LegViews.spool_fits d c.args.leg.0 l.leg l.at (ap (λ t. spooled_in (state_of t)) l.is) }

pub invariant_of-self : goal.invariant_of-self
invariant_of-self c =
    let d = c.args.self.now in
    let l = stated (legs d.queues c.args.leg.0) states.Refused c.requires in
    let some = LegViews.some_queued d c.args.leg.0 l.leg l.at (ap (λ t. count_in (state_of t)) l.is) in
    record {
      sound = subst (λ v. LegViews.IsSoundBy d c.spooled.new.self v) (sym c.stored-self.ensures)
          (LegViews.sound_stored d c.args.leg.0 l.leg l.at l.is c.args.seq c.spooled.new.self c.spooled.ensures.legs c.spooled.ensures.room c.spooled.ensures.servers (d.counts.queued - 1) (omega (arith, some)));
      table = d.table;
      within = FlightsStayWithin.same_within (in_flight d.queues) (in_flight c.spooled.new.self) d.limit d.within c.spooled.ensures.flights;
    }

pub returns : goal.returns
returns c =
    let d = c.args.self.now in
    let l = stated (legs d.queues c.args.leg.0) states.Refused c.requires in
    subst (λ o. HasDone (at_row (stores (core_view d) c.args.leg.0 c.args.seq) o) (LegViews.view_with d c.spooled.new.self) (step_to leg_states.Spooled changes.Spooled)) (sym (LegViews.there d c.args.leg.0 l.leg l.at))
    (refl, Landings.stored_view d c.args.leg.0 l.leg l.at l.is c.args.seq c.spooled.new.self c.spooled.ensures.legs c.spooled.ensures.flights)
