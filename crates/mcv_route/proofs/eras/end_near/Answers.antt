use Rattle.std.proofs.Common.{◌+◌, ◌<◌, arith}
use Rattle.mcv_route.proofs.NearNumbers.{near_number_of, none_behind, none_past, not_near, one_behind, only_own}
use Rattle.mcv_route.proofs.eras.end_near.Goals as goal
use Rattle.mcv_route.proofs.eras.end_near.Goals.{then-loop-last-test+else-near, else-loop-last-test}

pub loop-last-init : goal.loop-last-init
loop-last-init c = (omega arith, (c.era_count-count.ensures c.args.era).1 c.requires, only_own c.args.routes.now c.args.window c.args.era c.requires)

pub loop-last-preserved : goal.loop-last-preserved
loop-last-preserved c =
    let h = c.loop-last.invariant in
    let low = h.0 in
    let next = (c.era_count-count.ensures (c.loop-last.last + 1)).0 c.loop-last-test.true in
    let near = near_number_of c.args.routes.now c.args.window c.args.era (c.loop-last.last + 1) c.near.result c.requires next c.near.ensures c.if-near.true in
    (omega (arith, low), c.loop-last-test.true, one_behind c.args.routes.now c.args.window c.args.era c.loop-last.last near h.2)

pub returns-clause-all : goal.returns-clause-all
returns-clause-all c =
    let low = c.loop-last.invariant.0 in
    elim c.loop-last-test.branch [
      | then-loop-last-test+else-near w ↦
          none_behind c.args.routes.now c.args.window c.args.era (c.loop-last.last + 1) (omega (arith, low)) ((c.era_count-count.ensures (c.loop-last.last + 1)).0 w.loop-last-test.true)
          (not_near c.args.routes.now c.args.window c.args.era (c.loop-last.last + 1) w.near.result w.near.ensures w.if-near.false)
      | else-loop-last-test w ↦ none_past c.args.routes.now c.era_count-count.result c.args.window c.args.era c.loop-last.last c.era_count-count.ensures w.loop-last-test.false
    ]
