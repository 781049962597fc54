use Rattle.mcv_world.proofs.DeletesAreKept
use Rattle.mcv_world.proofs.laws.deletes_are_kept.Goals as goal

pub returns : goal.returns
returns c = DeletesAreKept.covered_is_kept
