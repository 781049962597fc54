use Rattle.std.proofs.Common.{◌∙◌, ◌<◌, ◌-◌, refl, ap, sym, subst, cond, nat_eq, None}
use Rattle.std.specs.Prelude.{option_map}
use Rattle.mcv_queues.specs.Numbers.{put}
use Rattle.mcv_queues.specs.Legs.{server_of, is_in_flight_to, leg_content}
use Rattle.mcv_queues.specs.Rows.{at, links, legs}
use Rattle.mcv_queues.specs.Roots.{root_of, flights, known}
use Rattle.mcv_queues.proofs.LegsInFlight
use Rattle.mcv_queues.proofs.QueuesStaySound
use Rattle.mcv_queues.proofs.queues.Queues.gone.Goals as goal

pub land-requires : goal.land-requires
land-requires g c =
    let q = c.args.self.now in
    let x = c.args.leg.0 in
    subst (λ j. j < known c.leave-server.new.roots) (sym c.leave-server.ensures.server) (subst (λ j. server_of (legs q.rows x) < j) (sym c.leave-server.ensures.known)
    (LegsInFlight.flight_known (known q.roots) (legs q.rows x) (q.sound.range x) c.requires.there))

pub invariant_of-self : goal.invariant_of-self
invariant_of-self g c =
    let q = c.args.self.now in
    let x = c.args.leg.0 in
    let el = QueuesStaySound.legs_put (at c.leave-server.new.self) (at c.remove.new.self) x None c.remove.ensures.at in
    let ef = QueuesStaySound.links_put (at c.leave-server.new.self) (at c.remove.new.self) x None c.remove.ensures.at in
    let new = el ∙ ap (λ f. put f x None) c.leave-server.ensures.legs in
    record {
      sound = record {
        trees = QueuesStaySound.rooted (legs c.remove.new.self) (links c.remove.new.self) (root_of c.leave-server.new.roots) (root_of c.land.new.self) (QueuesStaySound.dropped (legs q.rows) (legs c.remove.new.self) (links c.leave-server.new.self) (links c.remove.new.self) (root_of c.leave-server.new.roots) x (c.leave-server.ensures.trees q.sound.trees) new ef) c.land.ensures.roots;
        flying = LegsInFlight.brought_back (legs q.rows) (legs c.remove.new.self) (flights q.roots) (flights c.land.new.self) (server_of (legs q.rows x)) x None q.sound.flying new
            (λ t. c.land.ensures.flights t ∙ ap (λ s. cond (nat_eq s t) (flights c.leave-server.new.roots s - 1) (flights c.leave-server.new.roots t)) c.leave-server.ensures.server
            ∙ ap (λ b. cond (nat_eq (server_of (legs q.rows x)) t) (b - 1) (flights c.leave-server.new.roots t)) (c.leave-server.ensures.flights (server_of (legs q.rows x)))
            ∙ ap (λ b. cond (nat_eq (server_of (legs q.rows x)) t) (flights q.roots (server_of (legs q.rows x)) - 1) b) (c.leave-server.ensures.flights t))
            (LegsInFlight.own_server (legs q.rows x) c.requires.there) (λ t. refl);
        range = QueuesStaySound.range_known (legs c.remove.new.self) (legs c.remove.new.self) (known q.roots) (known c.land.new.self) (QueuesStaySound.range_put (legs q.rows) (legs c.remove.new.self) (known q.roots) x None q.sound.range new (λ l e. absurd (cc))) refl (c.land.ensures.known ∙ c.leave-server.ensures.known);
      };
    }

pub returns-clause-legs : goal.returns-clause-legs
returns-clause-legs g c = QueuesStaySound.legs_put (at c.leave-server.new.self) (at c.remove.new.self) c.args.leg.0 None c.remove.ensures.at ∙ ap (λ f. put f c.args.leg.0 None) c.leave-server.ensures.legs

pub returns-clause-flights : goal.returns-clause-flights
returns-clause-flights g c = λ s.
    let q = c.args.self.now in
    let x = c.args.leg.0 in
    c.land.ensures.flights s ∙ LegsInFlight.one_server (flights c.leave-server.new.roots) c.leave-server.result s
    ∙ ap (λ b. cond b (flights c.leave-server.new.roots s - 1) (flights c.leave-server.new.roots s)) (ap (λ j. nat_eq j s) c.leave-server.ensures.server ∙ LegsInFlight.own_servers (legs q.rows x) s c.requires.there)
    ∙ ap (λ b. cond (is_in_flight_to s (legs q.rows x)) (b - 1) b) (c.leave-server.ensures.flights s)

pub returns-clause-content : goal.returns-clause-content
returns-clause-content g c = c.remove.ensures.content ∙ QueuesStaySound.content_of_leg (at c.leave-server.new.self c.args.leg.0) ∙ ap (λ f. option_map leg_content (f c.args.leg.0)) c.leave-server.ensures.legs
