use Rattle.std.proofs.Common.{◌≤◌, ◌+◌, length}
use Rattle.std.specs.Prelude.{vec_capacity}
use Rattle.mcv_lines.specs.Legs.{LandLegs}
use Rattle.mcv_lines.proofs.open.land.Given as goal

-- those so far have landed; there is a leg in flight for each that is left, and room for each in flight
abbrev pub invariant-loop-one : goal.invariant-loop-one
invariant-loop-one l = record {
  can : (goal.iterator-loop-one).can_next l.one-iterator;
  finite : (goal.iterator-loop-one).is_finite l.one-iterator;
  few : length l.one-iterator.rest.items ≤ length l.sent.items;
  room : length l.arrivals.items + length l.sent.items ≤ vec_capacity l.arrivals;
  so_far : LandLegs l.server l.fn.sent.items l.yielded l.fn.arrivals.items l.sent.items l.arrivals.items;
}
