use Rattle.std.proofs.Common.{vec_len}
use Rattle.mcv_mend.proofs.by_class.split_by_word.Given as goal

abbrev pub decreases-loop-last : goal.decreases-loop-last
decreases-loop-last l = vec_len l.above
