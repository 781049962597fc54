use Rattle.mcv_base.proofs.HashedPart.{no_mark, part_whole}
use Rattle.mcv_base.proofs.key.part_before.Goals as goal

pub returns-in-None : goal.returns-in-None
returns-in-None c = part_whole c.args.rest.now (no_mark c.args.rest.now c.in-None.ensures)
