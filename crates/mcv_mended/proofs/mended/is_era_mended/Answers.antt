use Rattle.std.proofs.Common.{option_map}
use Rattle.mcv_alike.specs.Numbers.{legs_value}
use Rattle.mcv_base.specs.declared.operation.Op.{Op}
use Rattle.mcv_base.specs.declared.request.Moment.{Moment}
use Rattle.mcv_route.specs.View.{view}
use Rattle.mcv_mended.specs.Members.{IsAskedWell}
use Rattle.mcv_mended.proofs.EachOperation.{each_operation}
use Rattle.mcv_mended.proofs.mended.is_era_mended.Goals as goal

pub returns : goal.returns
returns c = λ r n numbered is op.
    let sides = c.args.begun.now.sides.now in
    let P : Op → Type 0 = IsAskedWell r n (view sides.before.now) (view sides.after.now) c.args.rest.now (option_map (λ (m : Moment). m.0) c.args.since) (legs_value c.args.legs.now) in
    each_operation P (c.in_ok-fine.ensures r n numbered is) op
