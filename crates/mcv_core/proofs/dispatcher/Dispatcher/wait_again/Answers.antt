use Rattle.std.proofs.Common.{◌∙◌, refl, sym, ap, subst, true}
use Rattle.mcv_queues.specs.Legs.{is_flight, is_in_flight, is_in_flight_to}
use Rattle.mcv_queues.specs.Queues.{in_flight, legs}
use Rattle.mcv_queues.specs.declared.leg.State.TheVariants as states
use Rattle.mcv_core.specs.CoreView.{HasDone, at_row, replayed_in, step_to}
use Rattle.mcv_core.specs.View.{core_view}
use Rattle.mcv_core.specs.declared.step.Change.TheVariants as changes
use Rattle.mcv_core.specs.declared.step.LegState.TheVariants as leg_states
use Rattle.mcv_core.proofs.Landings.{stated}
use Rattle.mcv_core.proofs.FlightsStayWithin
use Rattle.mcv_core.proofs.LegViews
use Rattle.mcv_core.proofs.dispatcher.Dispatcher.wait_again.Goals as goal

pub replay_failed-requires : goal.replay_failed-requires
replay_failed-requires c =
    let l = stated (legs c.args.self.now.queues c.args.leg.0) states.InReplay c.requires in
    ap is_in_flight l.at ∙ ap is_flight l.is

pub invariant_of-self : goal.invariant_of-self
invariant_of-self c =
    let d = c.args.self.now in
    let l = stated (legs d.queues c.args.leg.0) states.InReplay c.requires in
    record {
      sound = LegViews.sound_failed d c.args.leg.0 l.leg l.at l.is c.replay_failed.new.self c.replay_failed.ensures.legs c.replay_failed.ensures.room c.replay_failed.ensures.servers;
      table = d.table;
      within = FlightsStayWithin.landed_within (in_flight d.queues) (in_flight c.replay_failed.new.self) d.limit (λ s. is_in_flight_to s (legs d.queues c.args.leg.0)) d.within c.replay_failed.ensures.flights;
    }

pub returns : goal.returns
returns c =
    let d = c.args.self.now in
    let l = stated (legs d.queues c.args.leg.0) states.InReplay c.requires in
    subst (λ o. HasDone (at_row (replayed_in (core_view d) c.args.leg.0 true) o) (LegViews.view_with d c.replay_failed.new.self) (step_to leg_states.Spooled changes.Nothing)) (sym (LegViews.there d c.args.leg.0 l.leg l.at))
    (refl, LegViews.waits_view d c.args.leg.0 l.leg l.at c.replay_failed.new.self c.replay_failed.ensures.legs (ap is_flight l.is) c.replay_failed.ensures.flights)
