use Rattle.std.proofs.Common.{◌+◌, ◌*◌}
use Rattle.mcv_mend.proofs.widening.+widening.Given as goal

abbrev pub decreases-push_widened : goal.decreases-push_widened
decreases-push_widened l = 2 * l.level

abbrev pub decreases-push_widened_below : goal.decreases-push_widened_below
decreases-push_widened_below l = 2 * l.level + 1
