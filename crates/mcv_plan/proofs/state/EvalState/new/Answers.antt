use Rattle.std.proofs.Common.{◌≡◌, ◌∙◌, arith, length, rules, slice_index, sym}
use Rattle.mcv_plan.specs.View.{view}
use Rattle.mcv_plan.proofs.CoursesEvaluate.{courses_evaluate}
use Rattle.mcv_plan.proofs.FirstWave.{built_begun, first_after, first_count, first_fresh, first_kept, first_room, first_shape, legs_begun}
use Rattle.mcv_plan.proofs.state.EvalState.new.Goals as goal

pub open-reply-requires : goal.open-reply-requires
open-reply-requires c =
    let choice = slice_index c.args.choice.now in
    let ls = c.build.new.entries.items in
    let built = built_begun choice c.args.plan.now c.new-entries.result.items (view c.in_ok-course.course) c.new-entries.ensures.items c.in_ok-course.ensures.course in
    let is = legs_begun choice c.args.plan.now c.new-entries.result.items ls c.new-entries.ensures.items c.in_ok-course.ensures.entries in
    let count : c.len-legs.result ≡ length ls = search rules in
    first_room choice c.args.plan.now c.in_ok-course.course ls built is c.in_ok-fresh.fresh c.in_ok-fresh.ensures.items (omega (arith, count, c.in_ok-fresh.ensures.capacity))

pub invariant_of-state-clause-kept : goal.invariant_of-state-clause-kept
invariant_of-state-clause-kept c =
    let choice = slice_index c.args.choice.now in
    let ls = c.build.new.entries.items in
    let built = built_begun choice c.args.plan.now c.new-entries.result.items (view c.in_ok-course.course) c.new-entries.ensures.items c.in_ok-course.ensures.course in
    let is = legs_begun choice c.args.plan.now c.new-entries.result.items ls c.new-entries.ensures.items c.in_ok-course.ensures.entries in
    let count : c.len-legs.result ≡ length ls = search rules in
    first_kept choice c.args.plan.now c.in_ok-course.course ls built is c.open-reply.new.fresh (omega (arith, count, c.in_ok-fresh.ensures.capacity, c.open-reply.ensures.capacity))

pub invariant_of-state-clause-counted : goal.invariant_of-state-clause-counted
invariant_of-state-clause-counted c =
    let choice = slice_index c.args.choice.now in
    let ls = c.build.new.entries.items in
    let built = built_begun choice c.args.plan.now c.new-entries.result.items (view c.in_ok-course.course) c.new-entries.ensures.items c.in_ok-course.ensures.course in
    let is = legs_begun choice c.args.plan.now c.new-entries.result.items ls c.new-entries.ensures.items c.in_ok-course.ensures.entries in
    let count : c.len-legs.result ≡ length ls = search rules in
    count ∙ sym (first_count choice c.args.plan.now c.in_ok-course.course ls built is)

pub returns-clause-evaluates : goal.returns-clause-evaluates
returns-clause-evaluates c = λ t s serves.
    let choice = slice_index c.args.choice.now in
    let built = built_begun choice c.args.plan.now c.new-entries.result.items (view c.in_ok-course.course) c.new-entries.ensures.items c.in_ok-course.ensures.course in
    rw (legs_begun choice c.args.plan.now c.new-entries.result.items c.build.new.entries.items c.new-entries.ensures.items c.in_ok-course.ensures.entries)
    (courses_evaluate c.args.plan.now t s choice (view c.in_ok-course.course) serves built)

pub returns-clause-count : goal.returns-clause-count
returns-clause-count c =
    let choice = slice_index c.args.choice.now in
    let ls = c.build.new.entries.items in
    let built = built_begun choice c.args.plan.now c.new-entries.result.items (view c.in_ok-course.course) c.new-entries.ensures.items c.in_ok-course.ensures.course in
    first_shape choice c.args.plan.now c.in_ok-course.course ls built (legs_begun choice c.args.plan.now c.new-entries.result.items ls c.new-entries.ensures.items c.in_ok-course.ensures.entries)

pub returns-clause-begun : goal.returns-clause-begun
returns-clause-begun c =
    let built = built_begun (slice_index c.args.choice.now) c.args.plan.now c.new-entries.result.items (view c.in_ok-course.course) c.new-entries.ensures.items c.in_ok-course.ensures.course in
    first_after _ built.ready (c.open-reply.ensures.reply built.ready)

pub returns-clause-fresh : goal.returns-clause-fresh
returns-clause-fresh c =
    let built = built_begun (slice_index c.args.choice.now) c.args.plan.now c.new-entries.result.items (view c.in_ok-course.course) c.new-entries.ensures.items c.in_ok-course.ensures.course in
    first_fresh c.in_ok-course.course c.in_ok-fresh.fresh.items c.open-reply.new.fresh.items c.in_ok-fresh.ensures.items (c.open-reply.ensures.fresh built.ready)
