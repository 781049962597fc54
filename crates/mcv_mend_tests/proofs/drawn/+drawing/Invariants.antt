use Rattle.std.proofs.Common.{◌+◌, ◌*◌}
use Rattle.mcv_mend_tests.proofs.drawn.+drawing.Given as goal

abbrev pub decreases-push_many : goal.decreases-push_many
decreases-push_many l = 2 * l.depth + 1

abbrev pub decreases-push_two : goal.decreases-push_two
decreases-push_two l = 2 * l.depth + 1

abbrev pub decreases-push_by_prefix : goal.decreases-push_by_prefix
decreases-push_by_prefix l = 2 * l.depth + 1

abbrev pub decreases-push_by_operation : goal.decreases-push_by_operation
decreases-push_by_operation l = 2 * l.depth + 1

abbrev pub decreases-push_route : goal.decreases-push_route
decreases-push_route l = 2 * l.depth
