use Rattle.std.proofs.Common.{ap}
use Rattle.mcv_core.specs.Settling.{is_gone}
use Rattle.mcv_core.proofs.settle.leave.Goals as goal

pub sent_gone-requires : goal.sent_gone-requires
sent_gone-requires c = c.requires.sent (ap is_gone c.in-Gone.is)
