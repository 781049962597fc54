use Rattle.std.proofs.Common.{arith}
use Rattle.mcv_reply.proofs.progress.value_piece.Goals as goal

pub value_whole-requires-clause-missing : goal.value_whole-requires-clause-missing
value_whole-requires-clause-missing c = omega (arith, c.requires.at.1, c.len.ensures)
