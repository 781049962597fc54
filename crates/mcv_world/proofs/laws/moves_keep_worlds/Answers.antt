use Rattle.mcv_world.proofs.MovesKeepWorlds
use Rattle.mcv_world.proofs.laws.moves_keep_worlds.Goals as goal

pub returns-clause-opening : goal.returns-clause-opening
returns-clause-opening c = MovesKeepWorlds.opening_is_world

pub returns-clause-moves : goal.returns-clause-moves
returns-clause-moves c = MovesKeepWorlds.moves_keep_worlds
