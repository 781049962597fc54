use Rattle.std.proofs.Common.{◌≡◌, ◌+◌, take}
use Rattle.std.specs.Prelude.{sum_by}
use Rattle.mcv_turn.specs.Values.{value_bytes}
use Rattle.mcv_turn.proofs.values.is_room_left.Given as goal

abbrev pub invariant-loop-reply : goal.invariant-loop-reply
invariant-loop-reply l = l.left + sum_by (λ t. value_bytes t.reply) (take l.reply-index l.taken) ≡ l.most
