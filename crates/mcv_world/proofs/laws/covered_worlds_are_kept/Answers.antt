use Rattle.mcv_world.proofs.DeletesAreKept
use Rattle.mcv_world.proofs.laws.covered_worlds_are_kept.Goals as goal

pub returns-clause-worlds : goal.returns-clause-worlds
returns-clause-worlds c = DeletesAreKept.covered_worlds_are_kept

pub returns-clause-moves : goal.returns-clause-moves
returns-clause-moves c = DeletesAreKept.moves_keep_deletes
