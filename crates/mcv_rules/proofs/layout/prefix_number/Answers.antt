use Rattle.std.proofs.Common.{rules}
use Rattle.mcv_route.proofs.Views.{prefix_view-out}
use Rattle.mcv_rules.proofs.ChoosingHandles.{prefix-grows}
use Rattle.mcv_rules.proofs.layout.prefix_number.Goals as goal

-- one policy more, whether or not the rest begins with its prefix
pub loop-number-preserved : goal.loop-number-preserved
loop-number-preserved c =
    let step = prefix-grows c.loop-number.longest c.args.rest.now c.args.policies.now c.loop-number.number c.index-policies-number.result c.loop-number-test.true c.index-policies-number.is in
    search (rules, prefix_view-out)
