use Rattle.std.proofs.Common.{◌≡◌, length}
use Rattle.mcv_cert.proofs.Lines.{IsSoFar}
use Rattle.mcv_cert.proofs.read.read_body.Given as goal

abbrev pub invariant-loop-buffers : goal.invariant-loop-buffers
invariant-loop-buffers l = record {
  so_far : IsSoFar l.window l.body l.certificate.pairs l.rest;
  window : l.certificate.window ≡ l.window;
}

abbrev pub decreases-loop-buffers : goal.decreases-loop-buffers
decreases-loop-buffers l = length l.rest
