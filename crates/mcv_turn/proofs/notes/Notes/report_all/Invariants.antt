use Rattle.std.proofs.Common.{[]}
use Rattle.mcv_turn.specs.Runs.{Runs}
use Rattle.mcv_turn.specs.Shown.{TellsPerformed}
use Rattle.mcv_turn.proofs.notes.Notes.report_all.Given as goal

abbrev pub invariant-loop-arrival : goal.invariant-loop-arrival
invariant-loop-arrival g l = record {
  can : (goal.iterator-loop-arrival g).can_next l.arrival-iterator;
  finite : (goal.iterator-loop-arrival g).is_finite l.arrival-iterator;
  run : Runs l.fn.guard l.yielded [] l.guard;
  performed : TellsPerformed l.fn.guard l.yielded l.fn.performed.items l.performed.items;
}
