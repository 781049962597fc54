use Rattle.std.proofs.Common.{arith}
use Rattle.mcv_base.proofs.HashedPart.{part_at, part_whole}
use Rattle.mcv_base.proofs.key.part_before_mark.Goals as goal

pub returns-in-Some : goal.returns-in-Some
returns-in-Some c = part_at c.args.rest.now c.in-Some.place c.in-Some.ensures.1 (λ j below. c.in-Some.ensures.0.before j (omega arith) below)

pub returns-in-None : goal.returns-in-None
returns-in-None c = part_whole c.args.rest.now (λ j le. c.in-None.ensures j (omega arith) (omega arith))
