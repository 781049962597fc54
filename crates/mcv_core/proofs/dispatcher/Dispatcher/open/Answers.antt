use Rattle.std.proofs.Common.{◌≡◌, ◌∙◌, ◌<◌, ◌^◌, length, option_map, ap, subst, rules, refl}
use Rattle.std.specs.Arc.{arc_value}
use Rattle.mcv_queues.specs.Marks.{marks}
use Rattle.mcv_queues.specs.Queues.{in_flight, legs, room, servers}
use Rattle.mcv_route.specs.Eras.{breaks_of, since_at}
use Rattle.mcv_route.specs.Routes.{RoutesValue}
use Rattle.mcv_core.specs.Calls.{calls_at}
use Rattle.mcv_core.specs.Opening.{AreOpened, known_numbers, known_records}
use Rattle.mcv_core.proofs.FlightsStayWithin
use Rattle.mcv_core.proofs.OpenedCores
use Rattle.mcv_core.proofs.dispatcher.Dispatcher.open.Goals as goal

pub invariant_of-result : goal.invariant_of-result
invariant_of-result c =
    let r = arc_value c.args.accepted in
    let o = c.in_ok-opened.opened in
    let known = known_records r.servers c.args.records.now in
    let deref : c.deref.result.now ≡ arc_value c.args.accepted = search rules in
    let routes : c.routes-routes.result.now ≡ arc_value c.args.accepted = search rules in
    let are : AreOpened (known_records (arc_value c.args.accepted).servers c.args.records.now) (known_numbers (arc_value c.args.accepted).servers c.args.records.now) (legs c.in_ok-opened.opened.queues) c.in_ok-opened.opened.count =
    subst (λ (v : RoutesValue). AreOpened (known_records v.servers c.args.records.now) (known_numbers v.servers c.args.records.now) (legs c.in_ok-opened.opened.queues) c.in_ok-opened.opened.count) deref c.in_ok-opened.ensures.opened in
    let since : option_map (λ m. m.0) c.since-since.result ≡ since_at (breaks_of (arc_value c.args.accepted)) 0 = c.since-since.ensures ∙ ap (λ v. since_at (breaks_of v) 0) routes in
    let table : servers c.in_ok-opened.opened.queues ≡ length (arc_value c.args.accepted).servers = c.in_ok-opened.ensures.servers ∙ ap (λ (v : RoutesValue). length v.servers) deref in
    let fits : c.in_ok-opened.opened.count < 2 ^ 64 = search rules in
    record {
      sound = OpenedCores.sound r known (known_numbers r.servers c.args.records.now) (calls_at c.new-calls.result) c.new-calls.ensures (legs o.queues) o.count are (option_map (λ m. m.0) c.since-since.result) since fits (room o.queues) (servers o.queues) table;
      table = c.in_ok-marks.ensures.servers ∙ c.len.ensures.value ∙ ap length c.servers.ensures.value ∙ ap (λ (v : RoutesValue). length v.servers) routes;
      within = FlightsStayWithin.none_within (in_flight o.queues) c.args.limit c.in_ok-opened.ensures.flights;
    }

pub returns-clause-view : goal.returns-clause-view
returns-clause-view c =
    let r = arc_value c.args.accepted in
    let o = c.in_ok-opened.opened in
    let deref : c.deref.result.now ≡ arc_value c.args.accepted = search rules in
    let routes : c.routes-routes.result.now ≡ arc_value c.args.accepted = search rules in
    let are : AreOpened (known_records (arc_value c.args.accepted).servers c.args.records.now) (known_numbers (arc_value c.args.accepted).servers c.args.records.now) (legs c.in_ok-opened.opened.queues) c.in_ok-opened.opened.count =
    subst (λ (v : RoutesValue). AreOpened (known_records v.servers c.args.records.now) (known_numbers v.servers c.args.records.now) (legs c.in_ok-opened.opened.queues) c.in_ok-opened.opened.count) deref c.in_ok-opened.ensures.opened in
    let since : option_map (λ m. m.0) c.since-since.result ≡ since_at (breaks_of (arc_value c.args.accepted)) 0 = c.since-since.ensures ∙ ap (λ v. since_at (breaks_of v) 0) routes in
    OpenedCores.view r c.args.records.now (calls_at c.new-calls.result) c.new-calls.ensures (legs o.queues) o.count are (option_map (λ m. m.0) c.since-since.result) since (in_flight o.queues) c.in_ok-opened.ensures.flights
    c.args.limit (marks c.in_ok-marks.marks) c.in_ok-marks.ensures.marks _ refl
