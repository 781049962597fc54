use Rattle.std.proofs.Common.{length}
use Rattle.mcv_spool.proofs.Pieces.{Walked}
use Rattle.mcv_spool.proofs.contents.Contents.take_all.Given as goal

abbrev pub invariant-loop-rest : goal.invariant-loop-rest
invariant-loop-rest l = Walked l.fn.self.pending.items l.fn.bytes l.self.pending.items l.rest

abbrev pub decreases-loop-rest : goal.decreases-loop-rest
decreases-loop-rest l = length l.rest
