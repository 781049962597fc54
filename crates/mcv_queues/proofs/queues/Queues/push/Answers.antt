use Rattle.std.proofs.Common.{◌∙◌, ap, sym, subst}
use Rattle.std.specs.Prelude.{option_map}
use Rattle.mcv_queues.specs.Groups.{group_of}
use Rattle.mcv_queues.specs.Legs.{is_in_flight_to}
use Rattle.mcv_queues.specs.Soundness.{AreTrees}
use Rattle.mcv_queues.specs.Rows.{at, leg_of, link_of, links, legs}
use Rattle.mcv_queues.specs.Roots.{root_of, flights, known}
use Rattle.mcv_queues.proofs.LegsInFlight
use Rattle.mcv_queues.proofs.Places.{put_here}
use Rattle.mcv_queues.proofs.QueuesStaySound
use Rattle.mcv_queues.proofs.queues.Queues.push.Goals as goal

pub enter_new-requires : goal.enter_new-requires
enter_new-requires g c =
    let row = at c.args.self.now.rows in
    let x = c.args.leg.0 in
    record {
      known = c.requires.server;
      free = ap (λ u. option_map link_of (u x)) c.fill.ensures.at ∙ ap (option_map link_of) (put_here row x _);
      group = ap (λ u. group_of (option_map leg_of (u x))) c.fill.ensures.at ∙ ap (λ o. group_of (option_map leg_of o)) (put_here row x _);
    }

pub invariant_of-self : goal.invariant_of-self
invariant_of-self g c =
    let q = c.args.self.now in
    let x = c.args.leg.0 in
    let el = QueuesStaySound.legs_put (at q.rows) (at c.fill.new.self) x _ c.fill.ensures.at in
    let ef = QueuesStaySound.links_put (at q.rows) (at c.fill.new.self) x _ c.fill.ensures.at in
    record {
      sound = record {
        trees = subst (λ f. AreTrees f (links c.enter_new.new.self) (root_of c.enter_new.new.roots)) (sym c.enter_new.ensures.legs) (c.enter_new.ensures.trees (QueuesStaySound.fresh (legs q.rows) (legs c.fill.new.self) (links q.rows) (links c.fill.new.self) (root_of q.roots) x _ _ q.sound.trees c.requires.new el ef));
        flying = LegsInFlight.stayed (legs q.rows) (legs c.enter_new.new.self) (flights q.roots) (flights c.enter_new.new.roots) x _ q.sound.flying (c.enter_new.ensures.legs ∙ el) c.enter_new.ensures.flights
            (λ t. ap (λ o. is_in_flight_to t o) c.requires.new) (λ t. QueuesStaySound.waiting_in_no_flight t c.args.server c.args.content);
        range = QueuesStaySound.range_known (legs c.fill.new.self) (legs c.enter_new.new.self) (known q.roots) (known c.enter_new.new.roots) (QueuesStaySound.range_put (legs q.rows) (legs c.fill.new.self) (known q.roots) x _ q.sound.range el (λ l e. QueuesStaySound.one_server _ l (known q.roots) c.requires.server e)) c.enter_new.ensures.legs c.enter_new.ensures.known;
      };
    }

pub returns-clause-legs : goal.returns-clause-legs
returns-clause-legs g c = c.enter_new.ensures.legs ∙ QueuesStaySound.legs_put (at c.args.self.now.rows) (at c.fill.new.self) c.args.leg.0 _ c.fill.ensures.at
