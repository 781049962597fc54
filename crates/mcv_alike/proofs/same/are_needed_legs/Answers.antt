use Rattle.std.proofs.Common.{◌<◌, length, arith}
use Rattle.mcv_alike.proofs.Growing.{legs_grow}
use Rattle.mcv_alike.proofs.same.are_needed_legs.Goals as goal

pub loop-number-preserved : goal.loop-number-preserved
loop-number-preserved c = λ r n numbered.
    let needed = c.args.needed.now in
    let plans = c.args.plans.now in
    let i = c.loop-number.number in
    let test = c.loop-number-test.true in
    let lt : i < length needed = omega arith in
    let less : i < length plans = omega arith in
    legs_grow r n needed plans i c.index-needed-number.result c.index-plans-number.result lt less c.index-needed-number.is c.index-plans-number.is (c.loop-number.invariant r n numbered) (c.is_needed_leg.ensures r n numbered c.if-not-is_needed_leg.false)
