use Rattle.std.proofs.Common.{◌+◌, ◌*◌}
use Rattle.mcv_config.proofs.texts.+text.Given as goal

abbrev pub decreases-read_text : goal.decreases-read_text
decreases-read_text l = 2 * l.depth + 1

abbrev pub decreases-text_children : goal.decreases-text_children
decreases-text_children l = 2 * l.depth
