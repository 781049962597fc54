use Rattle.std.proofs.Common.{◌≡◌, ◌++◌, ◌+◌, ◌≤◌, Some, length, map}
use Rattle.std.specs.Prelude.{vec_capacity}
use Rattle.mcv_desks.proofs.mixed.joined.Given as goal

-- the replies so far, those that are left, and there is room for these
abbrev pub invariant-loop-reply : goal.invariant-loop-reply
invariant-loop-reply l = record {
  so_far : map Some l.parts.items ≡ l.yielded;
  left : l.yielded ++ l.reply-iterator.rest.items ≡ l.fn.replies.items;
  room : length l.parts.items + length l.reply-iterator.rest.items ≤ vec_capacity l.parts;
}
