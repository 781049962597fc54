use Rattle.std.proofs.Common.{◌+◌, length, map, arith}
use Rattle.std.proofs.lemmas.List.{length-map}
use Rattle.mcv_base.specs.declared.request.Moment.{Moment}
use Rattle.mcv_route.proofs.EraNumbers.{counted}
use Rattle.mcv_route.proofs.eras.era_count.Goals as goal

pub returns : goal.returns
returns c =
    let breaks = c.breaks.result.now in
    counted c.args.routes.now (map (λ (m : Moment). m.0) breaks) c.breaks.ensures (length breaks + 1) (omega (arith, length-map breaks (λ (m : Moment). m.0)))
