use Rattle.std.proofs.Common.{◌≡◌, ◌+◌, ◌≤◌, length, map}
use Rattle.std.specs.Prelude.{vec_capacity}
use Rattle.mcv_turn.proofs.answer.into_parts.Given as goal

-- the replies so far, and there is room for those that are left
abbrev pub invariant-loop-reply : goal.invariant-loop-reply
invariant-loop-reply l = record {
  replies : l.parts.items ≡ map (λ t. t.reply) l.yielded;
  room : length l.parts.items + length l.reply-iterator.rest.items ≤ vec_capacity l.parts;
}
