use Rattle.std.proofs.Common.{◌∙◌, ◌+◌, ap, cond, nat_eq}
use Rattle.std.specs.Prelude.{option_map}
use Rattle.mcv_queues.specs.Legs.{in_state}
use Rattle.mcv_queues.specs.Rows.{links, legs}
use Rattle.mcv_queues.specs.Roots.{root_of, flights, known}
use Rattle.mcv_queues.proofs.GroupsAreHeaps
use Rattle.mcv_queues.proofs.LegsInFlight
use Rattle.mcv_queues.proofs.QueuesStaySound
use Rattle.mcv_queues.proofs.queues.Queues.send_out.Goals as goal

pub invariant_of-self : goal.invariant_of-self
invariant_of-self g c =
    let q = c.args.self.now in
    let x = c.args.number in
    let v = option_map (in_state c.args.state) (legs q.rows x) in
    record {
      sound = record {
        trees = QueuesStaySound.rooted (legs c.change_state.new.self) (links c.change_state.new.self) (root_of c.change_state.new.roots) (root_of c.fly.new.self) (c.change_state.ensures.trees q.sound.trees) c.fly.ensures.roots;
        flying = LegsInFlight.sent_out (legs q.rows) (legs c.change_state.new.self) (flights q.roots) (flights c.fly.new.self) c.args.server x v q.sound.flying c.change_state.ensures.legs
            (λ t. c.fly.ensures.flights t ∙ ap (λ b. cond (nat_eq c.args.server t) (b + 1) (flights c.change_state.new.roots t)) (c.change_state.ensures.flights c.args.server) ∙ ap (λ b. cond (nat_eq c.args.server t) (flights q.roots c.args.server + 1) b) (c.change_state.ensures.flights t))
            (λ t. LegsInFlight.rests_in_no_flight c.args.server t (legs q.rows x) c.requires.there) (LegsInFlight.state_in_flight c.args.state c.args.server (legs q.rows x) c.requires.there c.requires.state);
        range = GroupsAreHeaps.range_with_state (legs q.rows) (legs c.change_state.new.self) (known q.roots) (known c.fly.new.self) x c.args.state q.sound.range c.change_state.ensures.legs (c.fly.ensures.known ∙ c.change_state.ensures.known);
      };
    }
