use Rattle.std.proofs.Common.{map}
use Rattle.mcv_base.specs.declared.reply.FixedReply.TheVariants.{ErrorRoute}
use Rattle.mcv_plan.specs.View.{view}
use Rattle.mcv_plan.proofs.CoursesBuilt.{no_courses, some_courses}
use Rattle.mcv_plan.proofs.PartsBuilt.{built_beside, built_no_beside, none_built}
use Rattle.mcv_plan.proofs.Views.{view-Beside, view-Reply}
use Rattle.mcv_plan.proofs.building.beside.Goals as goal

pub returns-then-is_empty : goal.returns-then-is_empty
returns-then-is_empty c = λ choice v from h.
    let courses = c.args.children.courses in
    rw (view-Reply ErrorRoute) (built_no_beside choice v from (none_built choice v.items from c.args.children.ends.items (map view courses.items) (no_courses courses _ c.is_empty.ensures c.if-is_empty.true) h))

pub returns : goal.returns
returns c = λ choice v from h.
    let courses = c.args.children.courses in
    let es = c.args.children.ends.items in
    let ss = map view courses.items in
    let some = some_courses courses _ c.is_empty.ensures c.if-is_empty.false in
    rw (view-Beside c.args.children.ends courses) (built_beside choice v from es ss some h)
