use Rattle.std.proofs.Common.{ap, get_or}
use Rattle.mcv_route.specs.View.{shadow_view}
use Rattle.mcv_route.proofs.Views.{shadow_view-out}
use Rattle.mcv_route.proofs.HandleChildren.{item-at, no-item}
use Rattle.mcv_route.proofs.children.shadow_target.Goals as goal

pub returns-then-number-shadows : goal.returns-then-number-shadows
returns-then-number-shadows c =
    let shadows = c.args.shadows.now in
    let shadow = get_or shadows c.args.number c.index-shadows-number.result in
    item-at shadow_view shadows c.args.number shadow _ _ c.if-number-shadows.true (ap (get_or shadows c.args.number) c.index-shadows-number.is) (shadow_view-out shadow)

pub returns : goal.returns
returns c = no-item shadow_view c.args.shadows.now c.args.number c.if-number-shadows.false
