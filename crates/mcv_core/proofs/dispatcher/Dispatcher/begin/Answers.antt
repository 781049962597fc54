use Rattle.std.proofs.Common.{◌≡◌, ◌∙◌, ◌<◌, ◌+◌, ◌*◌, length, sym, ap, subst, rules, Some, option_map}
use Rattle.std.specs.Arc.{arc_value}
use Rattle.std.specs.Prelude.{slice_get}
use Rattle.mcv_route.specs.View.{view}
use Rattle.mcv_core.specs.Beginning.{HasLegRoom, HasRoom}
use Rattle.mcv_core.proofs.BegunCalls
use Rattle.mcv_core.proofs.dispatcher.Dispatcher.begin.Goals as goal

pub start-requires : goal.start-requires
start-requires c =
    let d = c.args.self.now in
    let routes : c.routes.result.now ≡ arc_value d.accepted = search rules in
    let at : Some (view c.in-Some.tree.now) ≡ option_map (λ e. e.tree) (slice_get (arc_value d.accepted).entries c.args.asked.route) =
    sym (ap (option_map (λ r. view r.now)) c.in-Some.is) ∙ c.route.ensures ∙ ap (λ z. option_map (λ e. e.tree) (slice_get z.entries c.args.asked.route)) routes in
    let rest : c.deref-2.result.now ≡ arc_value c.args.asked.rest = search rules in
    let opened = rw rest at c.in_ok-laid.ensures in
    let count : c.len.result ≡ length c.in_ok-laid.laid.1.items = search rules in
    record { can = BegunCalls.can_start d c.args.asked c.in_ok-laid.laid.0 c.in_ok-laid.laid.1.items (view c.in-Some.tree.now) at c.requires.choice opened (subst (HasRoom d) count c.in-Ok.ensures.ok) }

pub returns-in-Err-clause-refused : goal.returns-in-Err-clause-refused
returns-in-Err-clause-refused c =
    let d = c.args.self.now in
    let routes : c.routes.result.now ≡ arc_value d.accepted = search rules in
    let at : Some (view c.in-Some.tree.now) ≡ option_map (λ e. e.tree) (slice_get (arc_value d.accepted).entries c.args.asked.route) =
    sym (ap (option_map (λ r. view r.now)) c.in-Some.is) ∙ c.route.ensures ∙ ap (λ z. option_map (λ e. e.tree) (slice_get z.entries c.args.asked.route)) routes in
    let rest : c.deref-2.result.now ≡ arc_value c.args.asked.rest = search rules in
    let opened = rw rest at c.in_ok-laid.ensures in
    let count : c.len.result ≡ length c.in_ok-laid.laid.1.items = search rules in
    BegunCalls.unstarted_as d c.args.asked c.in_ok-laid.laid.1.items c.in-Err.fault (BegunCalls.planned_for d c.args.asked c.in_ok-laid.laid.0 c.in_ok-laid.laid.1.items (view c.in-Some.tree.now) at opened) c.in-Err.ensures.legs
    (λ e. subst (λ n. HasLegRoom d n → ⊥) count (c.in-Err.ensures.full e)) (λ e. subst (λ n. HasLegRoom d n × (1000000 < d.entries + (2 + 3 * n))) count (c.in-Err.ensures.entries e))
