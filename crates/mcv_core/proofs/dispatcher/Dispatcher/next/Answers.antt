use Rattle.std.proofs.Common.{None, Some, refl, ap}
use Rattle.mcv_queues.specs.declared.leg.State.TheVariants as states
use Rattle.mcv_core.specs.Events.{IsFirstWaiting}
use Rattle.mcv_core.specs.View.{core_view}
use Rattle.mcv_core.proofs.FlightsStayWithin
use Rattle.mcv_core.proofs.LegViews
use Rattle.mcv_core.proofs.Sendings
use Rattle.mcv_core.proofs.dispatcher.Dispatcher.next.Goals as goal

pub invariant_of-self : goal.invariant_of-self
invariant_of-self c =
    let d = c.args.self.now in
    record {
      sound = Sendings.next_sound d c.args.server.0 c.next.result c.next.new.self c.next.ensures.first c.next.ensures.legs c.next.ensures.err c.next.ensures.room c.next.ensures.servers;
      table = d.table;
      within = FlightsStayWithin.sending_within d.queues c.next.new.self d.limit c.args.server.0 c.next.result d.within c.next.ensures.free c.next.ensures.flights c.next.ensures.err;
    }

pub returns-in-Ok : goal.returns-in-Ok
returns-in-Ok c =
    let d = c.args.self.now in
    let n = c.in-Ok.leg.0 in
    let h = Sendings.first_waits d c.args.server.0 n c.in-Ok.ensures.first in
    record {
      move = None;
      event = record {
        free = c.in-Ok.ensures.free;
        first = Sendings.least_waiting d c.args.server.0 (Some n) c.in-Ok.ensures.first;
        view = Sendings.sent_view d c.args.server.0 n c.next.new.self c.in-Ok.ensures.flights states.Waiting states.Sent h c.in-Ok.ensures.legs;
        none = refl;
        does = Sendings.sent_does d c.args.server.0 n c.next.new.self c.in-Ok.ensures.flights states.Waiting states.Sent h refl c.in-Ok.ensures.legs
            (LegViews.sound_sent d n h.leg h.at h.is c.next.new.self c.in-Ok.ensures.legs c.in-Ok.ensures.room c.in-Ok.ensures.servers).core;
      };
    }

pub returns-in-Err : goal.returns-in-Err
returns-in-Err c =
    let d = c.args.self.now in
    record {
      move = None;
      event = record {
        cause = Sendings.unsent (core_view d) c.args.server.0 IsFirstWaiting c.in-Err.fault c.refused.result c.refused.ensures c.in-Err.ensures.busy
            (λ e. let both = c.in-Err.ensures.nothing e in (both.0, Sendings.least_waiting d c.args.server.0 None both.1));
        none = refl;
        same = ap (LegViews.view_with d) c.in-Err.ensures.err;
      };
    }
