use Rattle.mcv_route.proofs.NearNumbers.{decided, in_turn, past}
use Rattle.mcv_route.proofs.eras.near_later.Goals as goal

pub returns-in_default : goal.returns-in_default
returns-in_default c = λ since read o p. absurd (past c.args.routes.now c.breaks-breaks.result.now c.breaks-breaks.ensures c.args.before read c.in_default.ensures.lookup p)

pub reaches-requires : goal.reaches-requires
reaches-requires c = in_turn c.args.routes.now c.breaks-breaks.result.now c.breaks-breaks.ensures c.args.era c.args.before (record { 0 = 0 }) c.in-Some.start c.requires c.in-Some.ensures.lookup

pub returns : goal.returns
returns c = decided c.args.routes.now c.breaks-breaks.result.now c.breaks-breaks.ensures c.args.era c.args.before (record { 0 = 0 }) c.in-Some.start c.requires c.in-Some.ensures.lookup c.args.window c.reaches.result c.reaches.ensures
