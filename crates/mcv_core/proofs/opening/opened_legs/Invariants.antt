use Rattle.std.proofs.Common.{◌≡◌, ◌≤◌, ◌+◌, ℕ, length, take}
use Rattle.mcv_queues.specs.Queues.{in_flight, legs}
use Rattle.mcv_queues.specs.Queues.{room as leg_room}
use Rattle.mcv_queues.specs.Queues.{servers as known}
use Rattle.mcv_core.specs.Opening.{AreOpened, known_numbers, known_records}
use Rattle.mcv_core.proofs.opening.opened_legs.Given as goal

abbrev pub invariant-loop-record : goal.invariant-loop-record
invariant-loop-record l = record {
  table : l.servers ≡ l.accepted.servers;
  opened : AreOpened (known_records l.servers (take l.record-index l.records)) (known_numbers l.servers (take l.record-index l.records)) (legs l.opened.queues) l.opened.count;
  flights : (s : ℕ) → in_flight l.opened.queues s ≡ 0;
  servers : known l.opened.queues ≡ length l.servers;
  room : length l.records ≤ leg_room l.opened.queues + l.record-index;
  few : l.opened.count ≤ l.record-index;
}
