use Rattle.std.proofs.Common.{option_map}
use Rattle.mcv_alike.specs.Numbers.{legs_value}
use Rattle.mcv_base.specs.declared.request.Moment.{Moment}
use Rattle.mcv_route.specs.View.{view}
use Rattle.mcv_mended.proofs.AskedWell.{asked_alike, asked_delete}
use Rattle.mcv_mended.proofs.mended.is_asked_well.Goals as goal

pub returns-in-Delete : goal.returns-in-Delete
returns-in-Delete c = λ r n numbered is.
    let sides = c.args.begun.now.sides.now in
    let since = option_map (λ (m : Moment). m.0) c.args.since in
    asked_delete r n (view sides.before.now) (view sides.after.now) c.args.rest.now since (legs_value c.args.legs.now) c.args.op c.in_ok-old.old c.in_ok-new.new
    (c.requires.0 c.in_ok-old.old c.args.op since c.in_ok-old.ensures) (c.requires.1 c.in_ok-new.new c.args.op since c.in_ok-new.ensures)
    c.in-Delete.is (c.is_widened.ensures r n numbered is)

pub returns : goal.returns
returns c = λ r n numbered is.
    let sides = c.args.begun.now.sides.now in
    let since = option_map (λ (m : Moment). m.0) c.args.since in
    asked_alike r n (view sides.before.now) (view sides.after.now) c.args.rest.now since (legs_value c.args.legs.now) c.args.op c.in_ok-old.old c.in_ok-new.new
    (c.requires.0 c.in_ok-old.old c.args.op since c.in_ok-old.ensures) (c.requires.1 c.in_ok-new.new c.args.op since c.in_ok-new.ensures)
    c.in_default.not-Delete (c.is_same_plan.ensures r n numbered is)
