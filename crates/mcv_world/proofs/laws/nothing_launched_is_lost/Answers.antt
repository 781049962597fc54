use Rattle.mcv_world.proofs.DeletesAreKept
use Rattle.mcv_world.proofs.laws.nothing_launched_is_lost.Goals as goal

pub returns : goal.returns
returns c = DeletesAreKept.nothing_launched_is_lost
