use Rattle.std.proofs.Common.{◌∙◌, sym, ap, subst}
use Rattle.std.specs.Arc.{arc_value}
use Rattle.mcv_queues.specs.Legs.{is_in_flight_to}
use Rattle.mcv_queues.specs.Queues.{in_flight, legs, room, servers}
use Rattle.mcv_core.specs.Calls.{calls_at}
use Rattle.mcv_core.specs.Facts.{records_in}
use Rattle.mcv_core.specs.Rows.{rows_of}
use Rattle.mcv_core.specs.Soundness.{IsSound}
use Rattle.mcv_core.specs.View.{core_view, since_of}
use Rattle.mcv_core.proofs.FlightsStayWithin
use Rattle.mcv_core.proofs.SettledLegs
use Rattle.mcv_core.proofs.dispatcher.Dispatcher.settle.Goals as goal

pub leave-requires : goal.leave-requires
leave-requires c = record { flies = SettledLegs.flies c.args.self.now c.args.leg.0 c.args.to c.requires.can; sent = c.requires.sent }

pub hear-step-requires : goal.hear-step-requires
hear-step-requires c =
    let d = c.args.self.now in
    let n = c.args.leg.0 in
    let can = c.requires.can in
    let call_is = SettledLegs.owner_call d n c.args.to can c.args.owner.call c.requires.owner.call in
    let entry_is = SettledLegs.owner_entry d n c.args.to can c.args.owner.entry c.requires.owner.entry in
    record { can = SettledLegs.code_can_note d n c.args.to can c.leave.new.queues c.leave.ensures.legs c.leave.ensures.room c.leave.ensures.servers c.args.owner.call c.args.owner.entry call_is entry_is }

pub number_after-self-requires : goal.number_after-self-requires
number_after-self-requires c =
    let d = c.args.self.now in
    let n = c.args.leg.0 in
    let can = c.requires.can in
    let call_is = SettledLegs.owner_call d n c.args.to can c.args.owner.call c.requires.owner.call in
    let entry_is = SettledLegs.owner_entry d n c.args.to can c.args.owner.entry c.requires.owner.entry in
    let recorded = SettledLegs.code_recorded d n c.args.to can c.leave.new.queues c.args.owner.call c.args.owner.entry call_is entry_is c.args.outcome c.args.taken (calls_at c.hear-step.new.self) c.hear-step.new.queues
    c.hear-step.result c.hear-step.ensures.recorded in
    SettledLegs.numbers_fit d n c.args.to can c.leave.new.queues c.leave.ensures.legs c.args.outcome c.args.taken c.requires.one (calls_at c.hear-step.new.self) c.hear-step.new.queues c.hear-step.result recorded

pub settled-self-requires : goal.settled-self-requires
settled-self-requires c =
    let d = c.args.self.now in
    let n = c.args.leg.0 in
    let can = c.requires.can in
    let call_is = SettledLegs.owner_call d n c.args.to can c.args.owner.call c.requires.owner.call in
    let entry_is = SettledLegs.owner_entry d n c.args.to can c.args.owner.entry c.requires.owner.entry in
    let recorded = SettledLegs.code_recorded d n c.args.to can c.leave.new.queues c.args.owner.call c.args.owner.entry call_is entry_is c.args.outcome c.args.taken (calls_at c.hear-step.new.self) c.hear-step.new.queues
    c.hear-step.result c.hear-step.ensures.recorded in
    let removed = SettledLegs.code_removed d n c.args.to can c.args.owner.call call_is (calls_at c.hear-step.new.self) (calls_at c.remove_if.new.self) c.hear-step.result.ended c.remove_if.ensures in
    record {
      spent = SettledLegs.spent d n c.args.to can c.leave.new.queues c.leave.ensures.legs c.args.outcome c.args.taken c.requires.one (calls_at c.hear-step.new.self) c.hear-step.new.queues c.hear-step.result recorded;
      leaving = SettledLegs.leaving d n c.args.to can;
      small = d.sound.limit;
      stored = SettledLegs.storing d n c.args.to can;
      ending = SettledLegs.ending d n c.args.to can c.leave.new.queues c.leave.ensures.legs c.args.outcome c.args.taken c.requires.one (calls_at c.hear-step.new.self) c.hear-step.new.queues c.hear-step.result recorded c.remove_if.new.self removed;
    }

pub invariant_of-self : goal.invariant_of-self
invariant_of-self c =
    let d = c.args.self.now in
    let n = c.args.leg.0 in
    let can = c.requires.can in
    let call_is = SettledLegs.owner_call d n c.args.to can c.args.owner.call c.requires.owner.call in
    let entry_is = SettledLegs.owner_entry d n c.args.to can c.args.owner.entry c.requires.owner.entry in
    let recorded = SettledLegs.code_recorded d n c.args.to can c.leave.new.queues c.args.owner.call c.args.owner.entry call_is entry_is c.args.outcome c.args.taken (calls_at c.hear-step.new.self) c.hear-step.new.queues
    c.hear-step.result c.hear-step.ensures.recorded in
    let removed = SettledLegs.code_removed d n c.args.to can c.args.owner.call call_is (calls_at c.hear-step.new.self) (calls_at c.remove_if.new.self) c.hear-step.result.ended c.remove_if.ensures in
    record {
      sound = subst (λ m. IsSound (arc_value d.accepted) (calls_at c.remove_if.new.self) (legs c.hear-step.new.queues) (since_of d) d.moment.0 d.next_call m c.settled-self.result.reserved c.settled-self.result.queued c.settled-self.result.spooled
          c.settled-self.result.running (room c.hear-step.new.queues) (servers c.hear-step.new.queues)) (sym c.number_after-self.ensures)
          (SettledLegs.sound_then d n c.args.to can c.leave.new.queues c.leave.ensures.legs c.args.outcome c.args.taken c.requires.one (calls_at c.hear-step.new.self) c.hear-step.new.queues c.hear-step.result recorded c.remove_if.new.self removed c.settled-self.result c.settled-self.ensures c.leave.ensures.room c.hear-step.ensures.room (c.hear-step.ensures.servers ∙ c.leave.ensures.servers));
      table = d.table;
      within = FlightsStayWithin.same_within (in_flight c.leave.new.queues) (in_flight c.hear-step.new.queues) d.limit
          (FlightsStayWithin.landed_within (in_flight d.queues) (in_flight c.leave.new.queues) d.limit (λ s. is_in_flight_to s (legs d.queues n)) d.within c.leave.ensures.flights) c.hear-step.ensures.flights;
    }

pub returns : goal.returns
returns c =
    let d = c.args.self.now in
    let n = c.args.leg.0 in
    let can = c.requires.can in
    let call_is = SettledLegs.owner_call d n c.args.to can c.args.owner.call c.requires.owner.call in
    let entry_is = SettledLegs.owner_entry d n c.args.to can c.args.owner.entry c.requires.owner.entry in
    let recorded = SettledLegs.code_recorded d n c.args.to can c.leave.new.queues c.args.owner.call c.args.owner.entry call_is entry_is c.args.outcome c.args.taken (calls_at c.hear-step.new.self) c.hear-step.new.queues
    c.hear-step.result c.hear-step.ensures.recorded in
    let removed = SettledLegs.code_removed d n c.args.to can c.args.owner.call call_is (calls_at c.hear-step.new.self) (calls_at c.remove_if.new.self) c.hear-step.result.ended c.remove_if.ensures in
    ap (λ m. record (core_view d) { rows = rows_of (calls_at c.remove_if.new.self) (legs c.hear-step.new.queues) (since_of d) d.next_call m; records = records_in (legs c.hear-step.new.queues); flights = in_flight c.hear-step.new.queues }) c.number_after-self.ensures
    ∙ SettledLegs.view_settled d n c.args.to can c.leave.new.queues c.leave.ensures.legs c.args.outcome c.args.taken c.requires.one (calls_at c.hear-step.new.self) c.hear-step.new.queues c.hear-step.result recorded c.remove_if.new.self removed c.hear-step.ensures.records c.leave.ensures.flights c.hear-step.ensures.flights
