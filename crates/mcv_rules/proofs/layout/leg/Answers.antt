use Rattle.std.proofs.Common.{rules, refl}
use Rattle.mcv_route.specs.View.{pool_view}
use Rattle.mcv_rules.specs.PlanInMemory.{situation_at}
use Rattle.mcv_rules.proofs.Serving.{serves-pool}
use Rattle.mcv_rules.proofs.layout.leg.Goals as goal

pub returns : goal.returns
returns c = serves-pool _ (pool_view c.args.leaf.now) (situation_at c.args.asked.now c.args.position) refl refl (search rules) refl refl
