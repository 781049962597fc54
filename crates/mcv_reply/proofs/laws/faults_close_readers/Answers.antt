use Rattle.std.proofs.Common.{◌≡◌, ℕ, List, Err}
use Rattle.mcv_base.specs.declared.operation.Op.{Op}
use Rattle.mcv_reply.specs.declared.fault.ReplyFault.{ReplyFault}
use Rattle.mcv_reply.specs.declared.fault.ReplyFault.TheVariants as faults
use Rattle.mcv_reply.specs.Probe.{FeedsProbe}
use Rattle.mcv_reply.specs.Reader.{FeedsAt, ReaderState, Fed, Answered, Closed}
use Rattle.mcv_reply.proofs.laws.faults_close_readers.Goals as goal

closed : (op : Op) (key : List ℕ) (state : ReaderState) (piece : List ℕ) (fault : ReplyFault) (new : ReaderState) → FeedsAt op key state piece (Err fault) new → new ≡ Closed
closed op key (Fed bytes) piece faults.NotAReply new fed = fed.1
closed op key (Fed bytes) piece faults.Closed new fed = absurd fed
closed op key (Fed bytes) piece faults.Memory new fed = fed
closed op key Answered piece fault new fed = fed.1
closed op key Closed piece fault new fed = fed.1

probe_closed : (state : ReaderState) (piece : List ℕ) (fault : ReplyFault) (new : ReaderState) → FeedsProbe state piece (Err fault) new → new ≡ Closed
probe_closed (Fed bytes) piece faults.NotAReply new fed = fed.1
probe_closed (Fed bytes) piece faults.Closed new fed = absurd fed
probe_closed (Fed bytes) piece faults.Memory new fed = fed
probe_closed Answered piece fault new fed = fed.1
probe_closed Closed piece fault new fed = fed.1

pub returns-clause-reply : goal.returns-clause-reply
returns-clause-reply c old new piece fault fed = closed old.op old.key old.state piece fault new.state fed.answers

pub returns-clause-probe : goal.returns-clause-probe
returns-clause-probe c old new piece fault = probe_closed old piece fault new
