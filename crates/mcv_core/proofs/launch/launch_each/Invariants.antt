use Rattle.std.specs.Prelude.{◌≡◌, ℕ}
use Rattle.mcv_queues.specs.Queues.{legs, room, in_flight, servers as known}
use Rattle.mcv_core.specs.Launching.{HasCome}
use Rattle.mcv_core.proofs.launch.launch_each.Given as goal

abbrev pub invariant-loop-entry : goal.invariant-loop-entry
invariant-loop-entry l = record {
  come : HasCome l.next l.number l.entry-index l.fresh l.initial.entries.items l.entries.items (legs l.initial.queues) (legs l.queues) (room l.initial.queues) (room l.queues);
  flights : (s : ℕ) → in_flight l.queues s ≡ in_flight l.initial.queues s;
  servers : known l.queues ≡ known l.initial.queues;
}
