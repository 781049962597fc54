use Rattle.std.proofs.Common.{map}
use Rattle.mcv_base.specs.declared.reply.FixedReply.TheVariants.{ErrorRoute}
use Rattle.mcv_plan.specs.View.{view}
use Rattle.mcv_plan.proofs.CoursesBuilt.{no_courses, some_courses}
use Rattle.mcv_plan.proofs.PartsBuilt.{built_in_turn, built_no_turn, each_ready, none_built}
use Rattle.mcv_plan.proofs.Views.{view-InTurn, view-Reply}
use Rattle.mcv_plan.proofs.building.in_turn.Goals as goal

pub returns-then-is_empty : goal.returns-then-is_empty
returns-then-is_empty c = λ choice v from h.
    let courses = c.args.children.courses in
    rw (view-Reply ErrorRoute) (built_no_turn choice c.args.after v from (none_built choice v.items from c.args.children.ends.items (map view courses.items) (no_courses courses _ c.is_empty.ensures c.if-is_empty.true) h))

pub returns : goal.returns
returns c = λ choice v from h.
    let courses = c.args.children.courses in
    let es = c.args.children.ends.items in
    let ss = map view courses.items in
    let some = some_courses courses _ c.is_empty.ensures c.if-is_empty.false in
    let ready = each_ready choice v.items from es ss h in
    rw (view-InTurn c.args.after c.args.children.ends courses c.search_at_once-current.result.1)
    (built_in_turn choice c.args.after v from es ss c.search_at_once-current.result.1 some h ((rw c.deref.ensures.value at c.search_at_once-current.ensures.steps) ready))
