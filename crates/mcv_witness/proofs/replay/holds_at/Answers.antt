use Rattle.mcv_witness.proofs.BreakDecision.{item_past, item_there}
use Rattle.mcv_witness.proofs.replay.holds_at.Goals as goal

pub returns-in-Some : goal.returns-in-Some
returns-in-Some c = item_there c.args.servers.now c.args.at c.args.server.0 c.get.result c.get.ensures.lookup c.in-Some.found c.in-Some.is

pub returns-in-None : goal.returns-in-None
returns-in-None c = item_past c.args.servers.now c.args.at c.args.server.0 c.get.result c.get.ensures.lookup c.in-None.is
