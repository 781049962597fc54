use Rattle.std.proofs.Common.{refl, arith}
use Rattle.mcv_route.proofs.NearNumbers.{earlier_era, later_era, same_era}
use Rattle.mcv_route.proofs.eras.near.Goals as goal

pub returns-then-era-other : goal.returns-then-era-other
returns-then-era-other c = λ since read o p. (λ _. same_era c.args.routes.now c.args.window c.args.era c.args.other since read c.if-era-other.true o p, λ _. refl)

pub returns-then-era-other-2 : goal.returns-then-era-other-2
returns-then-era-other-2 c = later_era c.args.routes.now c.args.window c.args.era c.args.other c.near_later.result c.if-era-other-2.true c.near_later.ensures

pub returns-else-era-other-2 : goal.returns-else-era-other-2
returns-else-era-other-2 c = earlier_era c.args.routes.now c.args.window c.args.era c.args.other c.near_later-else-era-other-2.result (omega (arith, c.if-era-other-2.false, c.if-era-other.false)) c.near_later-else-era-other-2.ensures
