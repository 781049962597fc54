use Rattle.mcv_world.proofs.DeletesAreKept
use Rattle.mcv_world.proofs.laws.readable_servers_are_launched.Goals as goal

pub returns : goal.returns
returns c = DeletesAreKept.readable_is_launched
