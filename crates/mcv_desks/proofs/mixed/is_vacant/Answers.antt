use Rattle.std.proofs.Common.{◌∙◌, Some, ap}
use Rattle.mcv_desks.proofs.MixedReplies.{item_there, none_of}
use Rattle.mcv_desks.proofs.mixed.is_vacant.Goals as goal

pub returns-in-Some : goal.returns-in-Some
returns-in-Some c = λ vacant. item_there c.args.replies.now c.args.key c.in-Some.reply c.in-Some.ensures.lookup ∙ ap Some (none_of c.in-Some.reply.now c.is_none.result c.is_none.ensures vacant)
