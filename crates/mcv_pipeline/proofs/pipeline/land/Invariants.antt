use Rattle.std.proofs.Common.{◌≤◌, ◌+◌, length}
use Rattle.std.specs.Prelude.{vec_capacity}
use Rattle.mcv_pipeline.specs.Pipeline.{LandsAll}
use Rattle.mcv_pipeline.proofs.pipeline.land.Given as goal

-- the replies so far have landed; there is a leg for each that is left, and room
abbrev pub invariant-loop-reply : goal.invariant-loop-reply
invariant-loop-reply l = record {
  can : (goal.iterator-loop-reply).can_next l.reply-iterator;
  finite : (goal.iterator-loop-reply).is_finite l.reply-iterator;
  legs : length l.reply-iterator.rest.items ≤ length l.legs.items;
  room : length l.landed.items + length l.reply-iterator.rest.items ≤ vec_capacity l.landed;
  so_far : LandsAll l.fn.legs.items l.yielded l.fn.landed.items l.legs.items l.landed.items;
}
