use Rattle.std.proofs.Common.{◌≡◌, ◌+◌, ◌≤◌, length}
use Rattle.std.specs.Prelude.{vec_capacity}
use Rattle.mcv_core.specs.Steps.{AreAnswered}
use Rattle.mcv_core.specs.View.{core_view}
use Rattle.mcv_core.proofs.engine.Core.run.Given as goal

-- the events so far are answered, and there is room for the answers to those that are left
abbrev pub invariant-loop-event : goal.invariant-loop-event
invariant-loop-event g l = record {
  can : (goal.iterator-loop-event g).can_next l.event-iterator;
  finite : (goal.iterator-loop-event g).is_finite l.event-iterator;
  room : length l.answers.items + length l.event-iterator.rest.items ≤ vec_capacity l.answers;
  answered : AreAnswered (g.H.KeyHash.chosen l.fn.self.hash) (core_view l.fn.self.dispatcher) l.yielded l.answers.items (core_view l.self.dispatcher);
  hash : l.self.hash ≡ l.fn.self.hash;
}
