use Rattle.std.proofs.Common.{◌∙◌, ◌<◌, ◌-◌, refl, ap, sym, subst, cond, nat_eq, None}
use Rattle.mcv_queues.specs.Legs.{server_of}
use Rattle.mcv_queues.specs.Rows.{at, links, legs}
use Rattle.mcv_queues.specs.Roots.{root_of, flights, known}
use Rattle.mcv_queues.proofs.GroupsAreHeaps
use Rattle.mcv_queues.proofs.LegsInFlight
use Rattle.mcv_queues.proofs.QueuesStaySound
use Rattle.mcv_queues.proofs.queues.Queues.sent_gone.Goals as goal

pub land-requires : goal.land-requires
land-requires g c =
    let q = c.args.self.now in
    let leg = legs q.rows c.args.leg.0 in
    let s = c.args.server.0 in
    subst (λ j. j < known q.roots) (LegsInFlight.sent_server s leg c.requires) (LegsInFlight.flight_known (known q.roots) leg (q.sound.range c.args.leg.0) (LegsInFlight.sent_flies s leg c.requires))

pub invariant_of-self : goal.invariant_of-self
invariant_of-self g c =
    let q = c.args.self.now in
    let x = c.args.leg.0 in
    let leg = legs q.rows x in
    let s = c.args.server.0 in
    let server = LegsInFlight.sent_server s leg c.requires in
    let flies = LegsInFlight.sent_flies s leg c.requires in
    let new = QueuesStaySound.legs_put (at q.rows) (at c.remove.new.self) x None c.remove.ensures.at in
    let ef = QueuesStaySound.links_put (at q.rows) (at c.remove.new.self) x None c.remove.ensures.at in
    let out = GroupsAreHeaps.left_none (legs q.rows) (links q.rows) (root_of q.roots) x q.sound.trees (LegsInFlight.sent_group s leg c.requires) in
    record {
      sound = record {
        trees = QueuesStaySound.rooted (legs c.remove.new.self) (links c.remove.new.self) (root_of q.roots) (root_of c.land.new.self) (QueuesStaySound.dropped (legs q.rows) (legs c.remove.new.self) (links q.rows) (links c.remove.new.self) (root_of q.roots) x out new ef) c.land.ensures.roots;
        flying = LegsInFlight.brought_back (legs q.rows) (legs c.remove.new.self) (flights q.roots) (flights c.land.new.self) (server_of leg) x None q.sound.flying new
            (λ t. c.land.ensures.flights t ∙ ap (λ j. cond (nat_eq j t) (flights q.roots j - 1) (flights q.roots t)) (sym server))
            (LegsInFlight.own_server leg flies) (λ t. refl);
        range = QueuesStaySound.range_known (legs c.remove.new.self) (legs c.remove.new.self) (known q.roots) (known c.land.new.self) (QueuesStaySound.range_put (legs q.rows) (legs c.remove.new.self) (known q.roots) x None q.sound.range new (λ l e. absurd (cc))) refl c.land.ensures.known;
      };
    }

pub returns-clause-legs : goal.returns-clause-legs
returns-clause-legs g c = QueuesStaySound.legs_put (at c.args.self.now.rows) (at c.remove.new.self) c.args.leg.0 None c.remove.ensures.at

pub returns-clause-flights : goal.returns-clause-flights
returns-clause-flights g c = λ t.
    let q = c.args.self.now in
    let leg = legs q.rows c.args.leg.0 in
    let s = c.args.server.0 in
    c.land.ensures.flights t ∙ LegsInFlight.one_server (flights q.roots) s t ∙ ap (λ b. cond b (flights q.roots t - 1) (flights q.roots t)) (ap (λ j. nat_eq j t) (sym (LegsInFlight.sent_server s leg c.requires)) ∙ LegsInFlight.own_servers leg t (LegsInFlight.sent_flies s leg c.requires))

pub returns-clause-content : goal.returns-clause-content
returns-clause-content g c = c.remove.ensures.content ∙ QueuesStaySound.content_of_leg (at c.args.self.now.rows c.args.leg.0)
