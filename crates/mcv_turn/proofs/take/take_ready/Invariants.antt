use Rattle.std.proofs.Common.{◌≡◌, ◌+◌, []}
use Rattle.std.specs.Prelude.{vec_len, vec_capacity}
use Rattle.mcv_turn.specs.Answers.{AreTaken, KeepsMore}
use Rattle.mcv_turn.specs.Runs.{Runs}
use Rattle.mcv_turn.proofs.take.take_ready.Given as goal

-- the reply to each call so far was taken, unless one won't come
abbrev pub invariant-loop-done : goal.invariant-loop-done
invariant-loop-done g l = record {
  run : Runs l.fn.guard [] [] l.guard;
  so_far : AreTaken g.B.HubLedger.opened l.calls l.done l.missed l.taken.items;
  kept : KeepsMore l.fn.kept.receipts.items l.kept.receipts.items l.fn.taken.items l.taken.items;
  room : vec_capacity l.taken ≡ vec_capacity l.fn.taken;
  counted : l.seat.taken.amount + vec_len l.fn.taken ≡ l.fn.seat.taken.amount + vec_len l.taken;
  begun : l.seat.begun.amount ≡ l.fn.seat.begun.amount;
}
