use Rattle.std.proofs.Common.{◌∙◌, ◌<◌, ◌+◌, ◌++◌, [], length, sym, ap, subst, take, arith}
use Rattle.std.specs.Str.{bytes_eq}
use Rattle.mcv_pools.specs.Table.{number_in}
use Rattle.mcv_queues.specs.Queues.{legs}
use Rattle.mcv_route.specs.Routes.{RoutesValue}
use Rattle.mcv_core.specs.Opening.{AreOpened, known_numbers, known_records, with_server}
use Rattle.mcv_core.proofs.OpenedCores
use Rattle.mcv_core.proofs.opening.opened_legs.Goals as goal

pub loop-record-init : goal.loop-record-init
loop-record-init c = record {
  table = c.servers-servers.ensures.value ∙ ap (λ (r : RoutesValue). r.servers) c.routes.ensures.value;
  opened = OpenedCores.none_opened (legs c.reserve.new.self) (λ n. ap (λ g. g n) c.reserve.ensures.legs ∙ c.in_ok-queues.ensures.legs n);
  flights = λ s. c.reserve.ensures.flights s ∙ c.in_ok-queues.ensures.flights s;
  servers = c.reserve.ensures.servers ∙ c.in_ok-queues.ensures.servers ∙ c.len.ensures.value;
  room = let a = c.in_ok-reserve.ensures.ok in omega (arith, a);
  few = omega arith;
}

pub store-requires-clause-room : goal.store-requires-clause-room
store-requires-clause-room c = let a = c.loop-record.invariant.room in let b = c.loop-record-test.true in omega (arith, a, b)

pub store-requires-clause-free : goal.store-requires-clause-free
store-requires-clause-free c = OpenedCores.free _ _ _ _ c.loop-record.invariant.opened

pub store-requires-clause-known : goal.store-requires-clause-known
store-requires-clause-known c = c.loop-record.invariant.servers

pub loop-record-preserved : goal.loop-record-preserved
loop-record-preserved c =
    let i = c.loop-record.record-index in
    let servers = c.servers-servers.result.now in
    let records = c.args.records.now in
    let before = known_records servers (take i records) in
    let numbers = known_numbers servers (take i records) in
    let more = OpenedCores.known_more servers records i c.record-item.result c.loop-record-test.true c.record-item.is in
    let more_numbers = OpenedCores.numbers_more servers records i c.record-item.result c.loop-record-test.true c.record-item.is in
    record {
      table = c.loop-record.invariant.table;
      opened = subst (λ k. AreOpened k (known_numbers servers (take (i + 1) records)) (legs c.store.new.self.queues) c.store.new.self.count) (sym more)
          (subst (λ m. AreOpened (before ++ with_server (number_in bytes_eq servers c.record-item.result.1.server) c.record-item.result.1.rest []) m (legs c.store.new.self.queues) c.store.new.self.count) (sym more_numbers)
          (c.in_ok-store.ensures.opened before numbers c.loop-record.invariant.opened));
      flights = λ s. c.store.ensures.flights s ∙ c.loop-record.invariant.flights s;
      servers = c.store.ensures.servers ∙ c.loop-record.invariant.servers;
      room = let a = c.loop-record.invariant.room in let b = c.store.ensures.room in omega (arith, a, b);
      few = let a = c.loop-record.invariant.few in let b = c.store.ensures.count in omega (arith, a, b);
    }

pub returns-clause-opened : goal.returns-clause-opened
returns-clause-opened c =
    let records = c.args.records.now in
    let past : c.loop-record.record-index < length records → ⊥ = λ low. let past = c.loop-record-test.false in omega (arith, low, past) in
    let all = OpenedCores.known_all c.servers-servers.result.now records c.loop-record.record-index past in
    let all_numbers = OpenedCores.numbers_all c.servers-servers.result.now records c.loop-record.record-index past in
    subst (λ k. AreOpened k (known_numbers c.args.accepted.now.servers records) (legs c.loop-record.opened.queues) c.loop-record.opened.count) (all ∙ ap (λ servers. known_records servers records) c.loop-record.invariant.table)
    (subst (λ m. AreOpened (known_records c.servers-servers.result.now (take c.loop-record.record-index records)) m (legs c.loop-record.opened.queues) c.loop-record.opened.count)
    (all_numbers ∙ ap (λ servers. known_numbers servers records) c.loop-record.invariant.table) c.loop-record.invariant.opened)

pub returns-clause-flights : goal.returns-clause-flights
returns-clause-flights c = c.loop-record.invariant.flights

pub returns-clause-servers : goal.returns-clause-servers
returns-clause-servers c = c.loop-record.invariant.servers ∙ ap length c.loop-record.invariant.table
