use Rattle.std.proofs.Common.{◌≡◌, ◌+◌, ◌≤◌, ◌++◌, true, vec_len}
use Rattle.std.specs.Prelude.{vec_capacity}
use Rattle.std.specs.VecDeque.{deque_len}
use Rattle.mcv_lines.specs.Lost.{again_of, lost_of}
use Rattle.mcv_lines.proofs.sent.tell_lost.Given as goal

-- what is left leads to what all were to lead to
abbrev pub invariant-loop-one : goal.invariant-loop-one
invariant-loop-one l = record {
  again : l.again.items ++ again_of l.loss l.unwritten l.sent.items ≡ l.fn.again.items ++ again_of l.loss l.unwritten l.fn.sent.items;
  lost : l.arrivals.items ++ lost_of l.server l.loss l.unwritten l.is_oldest l.sent.items ≡ l.fn.arrivals.items ++ lost_of l.server l.loss l.unwritten true l.fn.sent.items;
  arrivals_room : vec_len l.arrivals + deque_len l.sent ≤ vec_capacity l.arrivals;
  again_room : vec_len l.again + deque_len l.sent ≤ vec_capacity l.again;
}

abbrev pub decreases-loop-one : goal.decreases-loop-one
decreases-loop-one l = deque_len l.sent
