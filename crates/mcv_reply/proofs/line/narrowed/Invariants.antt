use Rattle.std.proofs.Common.{◌≤◌, ℕ, List, length}
use Rattle.mcv_reply.specs.Candidate.{IsKept}
use Rattle.mcv_reply.proofs.Lines.{IsLeft}
use Rattle.mcv_reply.proofs.line.narrowed.Given as goal

abbrev pub invariant-loop-candidate : goal.invariant-loop-candidate
invariant-loop-candidate l = record {
  few : length l.left.items ≤ l.candidate-index;
  so_far : (line : List ℕ) → IsKept l.fn.row l.fn.key line l.candidate-items → IsLeft l.fn.row l.fn.key line l.fn.bytes l.candidate-items l.candidate-index l.left.items;
}
