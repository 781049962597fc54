use Rattle.std.specs.Prelude.{option_map}
use Rattle.mcv_queues.specs.Legs.{in_state}
use Rattle.mcv_queues.specs.Rows.{legs}
use Rattle.mcv_queues.specs.Roots.{flights, known}
use Rattle.mcv_queues.proofs.GroupsAreHeaps
use Rattle.mcv_queues.proofs.LegsInFlight
use Rattle.mcv_queues.proofs.queues.Queues.settle.Goals as goal

pub invariant_of-self : goal.invariant_of-self
invariant_of-self g c =
    let q = c.args.self.now in
    let x = c.args.number in
    let v = option_map (in_state c.args.state) (legs q.rows x) in
    record {
      sound = record {
        trees = c.change_state.ensures.trees q.sound.trees;
        flying = LegsInFlight.stayed (legs q.rows) (legs c.change_state.new.self) (flights q.roots) (flights c.change_state.new.roots) x v q.sound.flying c.change_state.ensures.legs c.change_state.ensures.flights
            (λ t. LegsInFlight.rests_not_in_flight t (legs q.rows x) c.requires.there) (λ t. LegsInFlight.state_in_no_flight c.args.state t (legs q.rows x) c.requires.state);
        range = GroupsAreHeaps.range_with_state (legs q.rows) (legs c.change_state.new.self) (known q.roots) (known c.change_state.new.roots) x c.args.state q.sound.range c.change_state.ensures.legs c.change_state.ensures.known;
      };
    }
