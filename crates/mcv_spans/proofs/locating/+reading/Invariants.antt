use Rattle.std.proofs.Common.{◌+◌, ◌*◌}
use Rattle.mcv_spans.proofs.locating.+reading.Given as goal

abbrev pub decreases-read_value : goal.decreases-read_value
decreases-read_value l = 3 * l.depth

abbrev pub decreases-read_object : goal.decreases-read_object
decreases-read_object l = 3 * l.depth + 2

abbrev pub decreases-read_member : goal.decreases-read_member
decreases-read_member l = 3 * l.depth + 1

abbrev pub decreases-read_array : goal.decreases-read_array
decreases-read_array l = 3 * l.depth + 2
