use Rattle.std.proofs.Common.{◌≡◌, length, None}
use Rattle.mcv_text.specs.Stream.{Awaits}
use Rattle.mcv_session.specs.Drive.{Drives}
use Rattle.mcv_session.specs.Machine.{History, Lived}
use Rattle.mcv_session.proofs.drive.drive.Given as goal

abbrev pub invariant-loop-request : goal.invariant-loop-request
invariant-loop-request g l = record {
  free : l.session.request ≡ None;
  lives : (from : Awaits) (h : History) → Lived from h l.fn.session → Drives g.D.Desk.asks from h l.fn.desk l.desk l.session;
}

abbrev pub decreases-loop-request : goal.decreases-loop-request
decreases-loop-request g l = length l.session.waiting
