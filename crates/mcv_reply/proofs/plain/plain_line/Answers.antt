use Rattle.mcv_reply.proofs.Steps.{end_before}
use Rattle.mcv_reply.proofs.PlainLines.{line_starts}
use Rattle.mcv_reply.proofs.plain.plain_line.Goals as goal

pub plainly_said-requires : goal.plainly_said-requires
plainly_said-requires c = end_before c.args.piece.now c.in_ok-end.end c.in_ok-end.ensures

pub returns : goal.returns
returns c = line_starts c.args.op c.args.key.now c.args.piece.now c.in_ok-end.end c.in_ok-said.said c.in_ok-end.ensures c.in_ok-said.ensures
