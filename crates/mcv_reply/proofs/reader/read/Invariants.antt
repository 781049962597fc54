use Rattle.std.proofs.Common.{◌≡◌, ◌++◌, List, ℕ, length}
use Rattle.mcv_reply.specs.Reader.{Fed}
use Rattle.mcv_reply.specs.Progress.{IsAt, reader_state_at}
use Rattle.mcv_reply.proofs.reader.read.Given as goal

abbrev pub invariant-loop-left : goal.invariant-loop-left
invariant-loop-left l = record {
  at : IsAt l.fn.op l.fn.key l.progress;
  fed : (now : List ℕ) × (reader_state_at l.progress.stage l.progress ≡ Fed now) × ((bytes : List ℕ) → reader_state_at l.fn.progress.stage l.fn.progress ≡ Fed bytes → now ++ l.left ≡ bytes ++ l.fn.piece);
}

abbrev pub decreases-loop-left : goal.decreases-loop-left
decreases-loop-left l = length l.left
