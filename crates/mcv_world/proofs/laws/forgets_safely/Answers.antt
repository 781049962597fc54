use Rattle.mcv_world.proofs.ForgetsSafely
use Rattle.mcv_world.proofs.laws.forgets_safely.Goals as goal

pub returns-clause-live : goal.returns-clause-live
returns-clause-live c = ForgetsSafely.forgets_safely

pub returns-clause-moves : goal.returns-clause-moves
returns-clause-moves c = ForgetsSafely.moves_are_live

pub returns-clause-every : goal.returns-clause-every
returns-clause-every c = ForgetsSafely.moves_of_every_world
