use Rattle.std.proofs.Common.{◌-◌, ◌∙◌, map, option_map}
use Rattle.mcv_base.specs.declared.request.Moment.{Moment}
use Rattle.mcv_route.proofs.EraNumbers.{copied_number, none_mapped, opened_later, past_the_last}
use Rattle.mcv_route.proofs.eras.opened.Goals as goal

pub returns-clause-some : goal.returns-clause-some
returns-clause-some c =
    let breaks = c.breaks.result.now in
    opened_later c.args.routes.now (map (λ (m : Moment). m.0) breaks) c.breaks.ensures c.args.era (option_map (λ (m : Moment). m.0) c.copied.result) c.if-era-eq0.false
    (copied_number breaks (c.args.era - 1) c.get.result c.copied.result c.get.ensures.lookup c.copied.ensures)

pub returns-clause-none : goal.returns-clause-none
returns-clause-none c = λ out.
    let breaks = c.breaks.result.now in
    none_mapped c.copied.result
    (copied_number breaks (c.args.era - 1) c.get.result c.copied.result c.get.ensures.lookup c.copied.ensures
    ∙ past_the_last c.args.routes.now (map (λ (m : Moment). m.0) breaks) c.breaks.ensures c.args.era c.if-era-eq0.false out)
