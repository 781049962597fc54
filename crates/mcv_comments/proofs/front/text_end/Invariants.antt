use Rattle.std.proofs.Common.{◌-◌, length}
use Rattle.mcv_comments.proofs.Insides.{Scanned}
use Rattle.mcv_comments.proofs.front.text_end.Given as goal

abbrev pub invariant-loop-place : goal.invariant-loop-place
invariant-loop-place l = Scanned l.body l.place

abbrev pub decreases-loop-place : goal.decreases-loop-place
decreases-loop-place l = length l.initial.body - l.place
