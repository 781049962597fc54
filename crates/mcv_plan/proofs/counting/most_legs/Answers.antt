use Rattle.std.proofs.Common.{[]}
use Rattle.mcv_plan.proofs.counting.most_legs.Goals as goal

pub returns : goal.returns
returns c = c.count.ensures []
