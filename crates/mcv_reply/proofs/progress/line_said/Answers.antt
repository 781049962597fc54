use Rattle.mcv_reply.proofs.Stages.{always_said}
use Rattle.mcv_reply.proofs.progress.line_said.Goals as goal

pub returns-in-None : goal.returns-in-None
returns-in-None c = absurd (always_said c.args.op c.args.key.now c.args.said.first c.args.said.head c.args.line.items c.requires c.in_default.not-Value c.in-None.ensures)
