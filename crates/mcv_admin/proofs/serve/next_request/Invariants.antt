use Rattle.std.proofs.Common.{◌≤◌}
use Rattle.mcv_admin.proofs.Coming.{HasCome}
use Rattle.mcv_admin.proofs.serve.next_request.Given as goal

abbrev pub invariant-loop-read : goal.invariant-loop-read
invariant-loop-read g l = record {
  come : HasCome (g.I.Read.remaining l.fn.reader) (g.I.Read.remaining l.reader) l._read l.coming.request l.coming.known;
  few : l._read ≤ 8192;
}
