use Rattle.std.proofs.Common.{◌∙◌, ◌<◌, ◌-◌, ap, sym, subst, cond, nat_eq}
use Rattle.std.specs.Prelude.{option_map}
use Rattle.mcv_queues.specs.Legs.{in_state, server_of, is_in_flight_to}
use Rattle.mcv_queues.specs.Rows.{links, legs}
use Rattle.mcv_queues.specs.Roots.{root_of, flights, known}
use Rattle.mcv_queues.proofs.GroupsAreHeaps
use Rattle.mcv_queues.proofs.LegsInFlight
use Rattle.mcv_queues.proofs.QueuesStaySound
use Rattle.mcv_queues.proofs.queues.Queues.bring_back.Goals as goal

pub land-requires : goal.land-requires
land-requires g c =
    let q = c.args.self.now in
    subst (λ j. j < known c.change_state-server.new.roots) (sym c.change_state-server.ensures.server) (subst (λ j. server_of (legs q.rows c.args.number) < j) (sym c.change_state-server.ensures.known)
    (LegsInFlight.flight_known (known q.roots) (legs q.rows c.args.number) (q.sound.range c.args.number) c.requires.there))

pub invariant_of-self : goal.invariant_of-self
invariant_of-self g c =
    let q = c.args.self.now in
    let x = c.args.number in
    let v = option_map (in_state c.args.state) (legs q.rows x) in
    record {
      sound = record {
        trees = QueuesStaySound.rooted (legs c.change_state-server.new.self) (links c.change_state-server.new.self) (root_of c.change_state-server.new.roots) (root_of c.land.new.self) (c.change_state-server.ensures.trees q.sound.trees) c.land.ensures.roots;
        flying = LegsInFlight.brought_back (legs q.rows) (legs c.change_state-server.new.self) (flights q.roots) (flights c.land.new.self) (server_of (legs q.rows x)) x v q.sound.flying c.change_state-server.ensures.legs
            (λ t. c.land.ensures.flights t ∙ ap (λ s. cond (nat_eq s t) (flights c.change_state-server.new.roots s - 1) (flights c.change_state-server.new.roots t)) c.change_state-server.ensures.server
            ∙ ap (λ b. cond (nat_eq (server_of (legs q.rows x)) t) (b - 1) (flights c.change_state-server.new.roots t)) (c.change_state-server.ensures.flights (server_of (legs q.rows x)))
            ∙ ap (λ b. cond (nat_eq (server_of (legs q.rows x)) t) (flights q.roots (server_of (legs q.rows x)) - 1) b) (c.change_state-server.ensures.flights t))
            (LegsInFlight.own_server (legs q.rows x) c.requires.there)
            (λ t. LegsInFlight.state_in_no_flight c.args.state t (legs q.rows x) c.requires.state);
        range = GroupsAreHeaps.range_with_state (legs q.rows) (legs c.change_state-server.new.self) (known q.roots) (known c.land.new.self) x c.args.state q.sound.range c.change_state-server.ensures.legs (c.land.ensures.known ∙ c.change_state-server.ensures.known);
      };
    }

pub returns-clause-flights : goal.returns-clause-flights
returns-clause-flights g c = λ s.
    let q = c.args.self.now in
    let x = c.args.number in
    c.land.ensures.flights s ∙ LegsInFlight.one_server (flights c.change_state-server.new.roots) c.change_state-server.result s
    ∙ ap (λ b. cond b (flights c.change_state-server.new.roots s - 1) (flights c.change_state-server.new.roots s)) (ap (λ j. nat_eq j s) c.change_state-server.ensures.server ∙ LegsInFlight.own_servers (legs q.rows x) s c.requires.there)
    ∙ ap (λ b. cond (is_in_flight_to s (legs q.rows x)) (b - 1) b) (c.change_state-server.ensures.flights s)
