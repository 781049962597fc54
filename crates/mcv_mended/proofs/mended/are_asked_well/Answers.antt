use Rattle.std.proofs.Common.{List, option_map, subst}
use Rattle.std.specs.List.{All}
use Rattle.std.proofs.lemmas.List.{take_all}
use Rattle.mcv_alike.specs.Numbers.{legs_value}
use Rattle.mcv_base.specs.declared.operation.Op.{Op}
use Rattle.mcv_base.specs.declared.request.Moment.{Moment}
use Rattle.mcv_route.specs.View.{view}
use Rattle.mcv_mended.specs.Members.{IsAskedWell}
use Rattle.mcv_mended.proofs.EachOperation.{all_more}
use Rattle.mcv_mended.proofs.mended.are_asked_well.Goals as goal

pub loop-op-preserved : goal.loop-op-preserved
loop-op-preserved c = λ r n numbered.
    let sides = c.args.begun.now.sides.now in
    let P : Op → Type 0 = IsAskedWell r n (view sides.before.now) (view sides.after.now) c.args.rest.now (option_map (λ (m : Moment). m.0) c.args.since) (legs_value c.args.legs.now) in
    all_more P c.args.operations.now c.loop-op.op-index _ c.loop-op-test.true (c.loop-op.invariant r n numbered) (c.in_ok-fine.ensures r n numbered c.if-not-fine.false)

pub returns : goal.returns
returns c = λ r n numbered _.
    let sides = c.args.begun.now.sides.now in
    let P : Op → Type 0 = IsAskedWell r n (view sides.before.now) (view sides.after.now) c.args.rest.now (option_map (λ (m : Moment). m.0) c.args.since) (legs_value c.args.legs.now) in
    subst (λ (ops : List Op). All P ops) (take_all c.loop-op.op-index c.args.operations.now c.loop-op-test.false) (c.loop-op.invariant r n numbered)
