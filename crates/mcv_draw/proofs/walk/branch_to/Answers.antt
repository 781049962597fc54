use Rattle.mcv_draw.proofs.MadeOfParts.{branch_made}
use Rattle.mcv_draw.proofs.walk.branch_to.Goals as goal

pub returns : goal.returns
returns c = branch_made _ _ c.args.row _ _ _ _ c.in_ok-position.ensures c.in_ok-word.ensures c.is_folded-is_folded.ensures
