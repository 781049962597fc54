use Rattle.mcv_reply.proofs.RepliesInOrder.{receives_joined}
use Rattle.mcv_reply.proofs.laws.replies_in_any_cuts.Goals as goal

pub returns : goal.returns
returns c = receives_joined
