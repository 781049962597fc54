use Rattle.mcv_queues.specs.Queues.{in_flight}
use Rattle.mcv_core.proofs.BegunCalls
use Rattle.mcv_core.proofs.FlightsStayWithin
use Rattle.mcv_core.proofs.dispatcher.Dispatcher.make_room.Goals as goal

pub invariant_of-self-2 : goal.invariant_of-self-2
invariant_of-self-2 c =
    let d = c.args.self.now in
    record {
      sound = BegunCalls.sound_roomier d c.reserve.new.self c.reserve-2.new.self c.reserve.ensures.same c.reserve-2.ensures.legs c.reserve-2.ensures.room c.reserve-2.ensures.servers;
      table = d.table;
      within = FlightsStayWithin.same_within (in_flight d.queues) (in_flight c.reserve-2.new.self) d.limit d.within c.reserve-2.ensures.flights;
    }
