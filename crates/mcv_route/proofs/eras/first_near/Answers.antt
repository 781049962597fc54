use Rattle.std.proofs.Common.{◌-◌, ◌≤◌, arith}
use Rattle.mcv_route.proofs.NearNumbers.{era_below, near_number_of, none_before, not_near, one_before}
use Rattle.mcv_route.proofs.eras.first_near.Goals as goal

pub loop-first-preserved : goal.loop-first-preserved
loop-first-preserved c =
    let h = c.loop-first.invariant in
    let low = h.0 in
    let next = era_below c.args.routes.now c.args.era (c.loop-first.first - 1) (omega (arith, low)) c.requires in
    let near = near_number_of c.args.routes.now c.args.window c.args.era (c.loop-first.first - 1) c.near.result c.requires next c.near.ensures c.if-near.true in
    (omega (arith, low), one_before c.args.routes.now c.args.window c.args.era c.loop-first.first c.loop-first-test.true near h.1)

pub returns-else-near-clause-all : goal.returns-else-near-clause-all
returns-else-near-clause-all c =
    none_before c.args.routes.now c.args.window c.args.era c.loop-first.first c.loop-first.invariant.0 c.requires
    (not_near c.args.routes.now c.args.window c.args.era (c.loop-first.first - 1) c.near.result c.near.ensures c.if-near.false)
