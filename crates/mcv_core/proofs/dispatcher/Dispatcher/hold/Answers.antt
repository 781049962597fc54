use Rattle.std.proofs.Common.{◌∙◌, refl, sym, ap, subst}
use Rattle.mcv_queues.specs.Legs.{is_flight, is_in_flight, is_in_flight_to}
use Rattle.mcv_queues.specs.Queues.{in_flight, legs}
use Rattle.mcv_queues.specs.declared.leg.State.TheVariants as states
use Rattle.mcv_core.specs.CoreView.{HasDone, at_row, held, step_to}
use Rattle.mcv_core.specs.Facts.{counts_in}
use Rattle.mcv_core.specs.View.{core_view}
use Rattle.mcv_core.specs.declared.step.Change.TheVariants as changes
use Rattle.mcv_core.specs.declared.step.LegState.TheVariants as leg_states
use Rattle.mcv_core.proofs.Landings.{stated}
use Rattle.mcv_core.proofs.FlightsStayWithin
use Rattle.mcv_core.proofs.LegViews
use Rattle.mcv_core.proofs.dispatcher.Dispatcher.hold.Goals as goal

pub held-requires : goal.held-requires
held-requires c =
    let l = stated (legs c.args.self.now.queues c.args.leg.0) states.Sent c.requires.sent in
    ap is_in_flight l.at ∙ ap is_flight l.is

pub invariant_of-self : goal.invariant_of-self
invariant_of-self c =
    let d = c.args.self.now in
    let l = stated (legs d.queues c.args.leg.0) states.Sent c.requires.sent in
    record {
      sound = LegViews.sound_held d c.args.leg.0 l.leg l.at (ap counts_in (sym l.at) ∙ c.requires.counted) l.is c.held.new.self c.held.ensures.legs c.held.ensures.room c.held.ensures.servers;
      table = d.table;
      within = FlightsStayWithin.landed_within (in_flight d.queues) (in_flight c.held.new.self) d.limit (λ s. is_in_flight_to s (legs d.queues c.args.leg.0)) d.within c.held.ensures.flights;
    }

pub returns : goal.returns
returns c =
    let d = c.args.self.now in
    let l = stated (legs d.queues c.args.leg.0) states.Sent c.requires.sent in
    subst (λ o. HasDone (at_row (held (core_view d) c.args.leg.0) o) (LegViews.view_with d c.held.new.self) (step_to leg_states.Held changes.Nothing)) (sym (LegViews.there d c.args.leg.0 l.leg l.at))
    (refl, LegViews.held_view d c.args.leg.0 l.leg l.at c.held.new.self c.held.ensures.legs (ap is_flight l.is) c.held.ensures.flights)
