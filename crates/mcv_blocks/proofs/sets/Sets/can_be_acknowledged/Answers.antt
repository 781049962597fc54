use Rattle.mcv_blocks.proofs.Parts.{never_acknowledged}
use Rattle.mcv_blocks.proofs.sets.Sets.can_be_acknowledged.Goals as goal

pub returns : goal.returns
returns c =
    let own = c.self.inside in
    never_acknowledged c.args.self.now own.delete own.get own.gets own.incr own.decr c.self.invariant c.self.view_is c.can_acknowledge.result c.can_acknowledge.ensures
