use Rattle.std.proofs.Common.{◌≡◌, length}
use Rattle.mcv_session.specs.declared.session.Flow.TheVariants.{GoesOn}
use Rattle.mcv_session.specs.ServedSession.{Served}
use Rattle.mcv_session.specs.Machine.{IsIdle}
use Rattle.mcv_session.proofs.serve.serve_session.Given as goal

abbrev pub invariant-loop-turn : goal.invariant-loop-turn
invariant-loop-turn g l = record {
  live : IsIdle l.session;
  size : length l.room ≡ 16384;
  so_far : Served g.D.Desk.asks l.fn.desk l.desk GoesOn l.session.reader (g.R.Read.remaining l.fn.reader) (g.R.Read.remaining l.reader) (g.W.Write.contents l.fn.writer) (g.W.Write.contents l.writer);
}
