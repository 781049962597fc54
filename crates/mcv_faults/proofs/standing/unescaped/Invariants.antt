use Rattle.std.proofs.Common.{length}
use Rattle.mcv_faults.proofs.standing.unescaped.Given as goal

abbrev pub decreases-loop-rest : goal.decreases-loop-rest
decreases-loop-rest l = length l.rest
