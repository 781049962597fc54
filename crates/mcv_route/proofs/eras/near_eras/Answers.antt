use Rattle.mcv_route.proofs.NearNumbers.{near_eras_are}
use Rattle.mcv_route.proofs.eras.near_eras.Goals as goal

pub returns : goal.returns
returns c =
    near_eras_are c.args.routes.now c.args.window c.args.era c.first_near.result c.end_near.result c.first_near.ensures.first c.end_near.ensures.end c.first_near.ensures.near c.end_near.ensures.near c.first_near.ensures.all c.end_near.ensures.all
