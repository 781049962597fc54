use Rattle.std.proofs.Common.{◌≡◌, Some, length, ap, sym, subst, ◌∙◌, arith}
use Rattle.std.specs.Prelude.{slice_get}
use Rattle.std.proofs.lemmas.List.{length_push}
use Rattle.mcv_route.specs.Eras.{AreNearEras}
use Rattle.mcv_blocks.proofs.SetsEraByEra.{near_more, nears_are, none_near}
use Rattle.mcv_blocks.proofs.nears.nears_of.Goals as goal

pub near_eras-requires : goal.near_eras-requires
near_eras-requires c = (c.era_count-count.ensures c.loop-era.era).0 c.loop-era-test.true

pub loop-era-init : goal.loop-era-init
loop-era-init c = record { sized = ap length c.in_ok-nears.ensures.items; each = none_near c.args.routes.now c.in_ok-nears.nears.items c.in_ok-nears.ensures.items }

pub loop-era-preserved : goal.loop-era-preserved
loop-era-preserved c =
    let r = c.args.routes.now in
    let xs = c.loop-era.nears.items in
    let x = c.near_eras.result in
    let so_far = c.loop-era.invariant in
    let asked : AreNearEras r r.window c.loop-era.era x.first x.end = subst (λ w. AreNearEras r w c.loop-era.era x.first x.end) c.window-window.ensures c.near_eras.ensures in
    let own : AreNearEras r r.window (length xs) x.first x.end = subst (λ k. AreNearEras r r.window k x.first x.end) (sym so_far.sized) asked in
    let grown = c.in_ok-push.ensures.items in
    let sized = so_far.sized in
    let one_more = ap length grown ∙ length_push xs x in
    record {
      sized = omega (arith, one_more, sized);
      each = λ k y is. near_more r xs x so_far.each own k y (subst (λ zs. slice_get zs k ≡ Some y) grown is);
    }

pub returns : goal.returns
returns c = nears_are c.args.routes.now c.loop-era.nears.items c.loop-era.era c.era_count-count.result c.loop-era.invariant.sized c.loop-era-test.false c.era_count-count.ensures c.loop-era.invariant.each
