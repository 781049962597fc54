use Rattle.std.proofs.Common.{length}
use Rattle.mcv_comments.specs.Comments.{StripsTo}
use Rattle.mcv_comments.proofs.strip.strip_comments.Given as goal

abbrev pub invariant-loop-rest : goal.invariant-loop-rest
invariant-loop-rest l = StripsTo l.fn.text l.rest l.kept.items

abbrev pub decreases-loop-rest : goal.decreases-loop-rest
decreases-loop-rest l = length l.rest
