use Rattle.std.proofs.Common.{rules, true, false, ◌≡◌, ◌+◌, length, sym, ap, ◌∙◌, length-append, slice_index}
use Rattle.std.proofs.lemmas.List.{take_all}
use Rattle.std.proofs.lemmas.Result.{IfOk-weaker}
use Rattle.mcv_route.specs.Children.{is_within}
use Rattle.mcv_plan.specs.CourseOfPlan.{IsBuilt}
use Rattle.mcv_plan.specs.Entries.{legs_of}
use Rattle.mcv_plan.specs.View.{view}
use Rattle.mcv_plan.proofs.CoursesBuilt.{courses_grow, entries_grow, sent_at, silent_at}
use Rattle.mcv_plan.proofs.PartsBuilt.{built_on_hit, built_reply, built_shadow}
use Rattle.mcv_plan.proofs.Views.{view-OnHit, view-Reply}
use Rattle.mcv_plan.proofs.building.+building.Goals as goal

-- ---- each

pub build_each-loop-plan-preserved : goal.build_each-loop-plan-preserved
build_each-loop-plan-preserved t c =
    let here = c.loop-plan.invariant in
    let plans = c.args.plans.now in
    let i = c.loop-plan.plan-index in
    let p = c.plan-item.result in
    let choice = slice_index c.args.choice.now in
    record {
      entries = entries_grow choice plans i p _ c.loop-plan.entries.items _ c.loop-plan-test.true c.plan-item.is here.entries c.in_ok-build.ensures.entries;
      courses = rw (c.in_ok-push.ensures.items, c.in_ok-push-2.ensures.items)
          (courses_grow choice plans i p _ c.loop-plan.entries.items _ c.loop-plan-test.true c.plan-item.is c.loop-plan.ends.items c.loop-plan.courses.items _ c.in_ok-build.field-0 here.entries c.in_ok-build.ensures.entries (search rules) c.in_ok-build.ensures.course here.courses);
    }

pub build_each-returns-clause-entries : goal.build_each-returns-clause-entries
build_each-returns-clause-entries t c = rw (take_all c.loop-plan.plan-index c.args.plans.now c.loop-plan-test.false) at c.loop-plan.invariant.entries

pub build_each-returns-clause-courses : goal.build_each-returns-clause-courses
build_each-returns-clause-courses t c = rw (take_all c.loop-plan.plan-index c.args.plans.now c.loop-plan-test.false) at c.loop-plan.invariant.courses

-- ---- one part

pub build-returns-in_ok-push-in-Send-clause-course : goal.build-returns-in_ok-push-in-Send-clause-course
build-returns-in_ok-push-in-Send-clause-course t c =
    rw c.in-Send.is (sent_at (slice_index c.args.choice.now) c.in-Send.leg c.len-entry.result (length c.args.entries.now.items) (search rules))

pub build-returns-in-Reply-clause-course : goal.build-returns-in-Reply-clause-course
build-returns-in-Reply-clause-course t c =
    rw (c.in-Reply.is, view-Reply c.in-Reply.reply) (built_reply (slice_index c.args.choice.now) c.in-Reply.reply (length c.args.entries.now.items))

pub build-returns-then-is_within-clause-course : goal.build-returns-then-is_within-clause-course
build-returns-then-is_within-clause-course t c =
    let m = c.in-Shadowed in
    let choice = slice_index c.args.choice.now in
    let from = length c.args.entries.now.items in
    let on : is_within (record { first = m.first; last = m.last }) (choice m.symbol) ≡ true = rw c.index.ensures at (sym c.is_within.ensures ∙ c.if-is_within.true) in
    IfOk-weaker c.build.result (λ s. IsBuilt choice m.target.value from (view s)) (λ s. IsBuilt choice c.args.plan.now from (view s))
    (λ s built. rw m.is (built_shadow choice m.symbol m.first m.last from m.target (view s) on built)) (rw c.deref-then-is_within.ensures at c.build.ensures.course)

pub build-returns-else-is_within-clause-course : goal.build-returns-else-is_within-clause-course
build-returns-else-is_within-clause-course t c =
    let m = c.in-Shadowed in
    let choice = slice_index c.args.choice.now in
    let off : is_within (record { first = m.first; last = m.last }) (choice m.symbol) ≡ false = rw c.index.ensures at (sym c.is_within.ensures ∙ c.if-is_within.false) in
    rw m.is (silent_at choice m.symbol m.first m.last (length c.args.entries.now.items) m.target off)

pub build_on_hit-returns-clause-course : goal.build_on_hit-returns-clause-course
build_on_hit-returns-clause-course t c = λ p q e f.
    let choice = slice_index c.args.choice.now in
    let from = length c.args.entries.now.items in
    let end_is : c.len-end.result ≡ length c.build.new.entries.items = search rules in
    let count : c.len-end.result ≡ from + length (legs_of choice c.args.first.now) = end_is ∙ ap length c.in_ok-first.ensures.entries ∙ length-append c.args.entries.now.items (legs_of choice c.args.first.now) in
    let behind : IsBuilt choice c.args.second.now c.len-end.result (view c.in_ok-second.second) = rw end_is c.in_ok-second.ensures.course in
    rw (view-OnHit c.in_ok-new.field-0 c.len-end.result c.in_ok-new-2.field-0, c.in_ok-new.ensures.ok, c.in_ok-new-2.ensures.ok)
    (built_on_hit choice p q from c.len-end.result (view c.in_ok-first.first) (view c.in_ok-second.second) (rw e c.in_ok-first.ensures.course) (rw e count) (rw f behind))
