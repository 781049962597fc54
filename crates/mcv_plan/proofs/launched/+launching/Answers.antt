use Rattle.std.proofs.Common.{true, false, ◌≡◌, ◌∙◌, nat_eq, sym}
use Rattle.mcv_plan.specs.KnownOutcomes.{own_in}
use Rattle.mcv_plan.specs.ReachedAnswers.{goes_on_after}
use Rattle.mcv_plan.specs.View.{view}
use Rattle.mcv_plan.proofs.KnownOutcomes.{any_found, any_left, hit_found, hit_none, hit_second, or_none, search_ended, search_found, search_left}
use Rattle.mcv_plan.proofs.Views.{view-Send}
use Rattle.mcv_plan.proofs.launched.+launching.Goals as goal

pub launches-returns-in-Send : goal.launches-returns-in-Send
launches-returns-in-Send t c = rw (c.in-Send.is, view-Send c.in-Send.number) (or_none (nat_eq c.in-Send.number c.args.entry))

-- ---- all at once

pub any_launches-returns-then-launches : goal.any_launches-returns-then-launches
any_launches-returns-then-launches t c =
    any_found (own_in c.args.outcomes.now) c.args.children.now c.loop-child.child-index c.child-item.result c.args.entry c.launches.result _ c.loop-child-test.true c.child-item.is c.launches.ensures
    c.if-launches.true c.loop-child.invariant

pub any_launches-loop-child-preserved : goal.any_launches-loop-child-preserved
any_launches-loop-child-preserved t c =
    any_left (own_in c.args.outcomes.now) c.args.children.now c.loop-child.child-index c.child-item.result c.args.entry c.launches.result _ c.loop-child-test.true c.child-item.is c.launches.ensures
    c.if-launches.false c.loop-child.invariant

-- ---- one after another

pub search_launches-returns-then-launches : goal.search_launches-returns-then-launches
search_launches-returns-then-launches t c =
    search_found (own_in c.args.outcomes.now) c.args.children.now c.loop-child.child-index c.child-item.result c.args.entry c.launches.result _ c.loop-child-test.true c.child-item.is c.launches.ensures
    c.args.after c.if-launches.true c.loop-child.invariant

pub search_launches-returns-then-not-goes_on_after : goal.search_launches-returns-then-not-goes_on_after
search_launches-returns-then-not-goes_on_after t c =
    let off : goes_on_after c.args.after c.reply_in.result ≡ false = sym c.goes_on_after.ensures ∙ c.if-not-goes_on_after.true in
    search_ended (own_in c.args.outcomes.now) c.args.children.now c.loop-child.child-index c.child-item.result c.args.entry c.launches.result _ c.loop-child-test.true c.child-item.is c.launches.ensures
    c.args.after c.reply_in.result c.reply_in.ensures off c.if-launches.false c.loop-child.invariant

pub search_launches-loop-child-preserved : goal.search_launches-loop-child-preserved
search_launches-loop-child-preserved t c =
    let on : goes_on_after c.args.after c.reply_in.result ≡ true = sym c.goes_on_after.ensures ∙ c.if-not-goes_on_after.false in
    search_left (own_in c.args.outcomes.now) c.args.children.now c.loop-child.child-index c.child-item.result c.args.entry c.launches.result _ c.loop-child-test.true c.child-item.is c.launches.ensures
    c.args.after c.reply_in.result c.reply_in.ensures on c.if-launches.false c.loop-child.invariant

-- ---- after a hit

pub hit_launches-returns-then-launches : goal.hit_launches-returns-then-launches
hit_launches-returns-then-launches t c =
    hit_found (own_in c.args.outcomes.now) (view c.args.first.now) (view c.args.second.now) c.args.entry c.launches.result c.launches.ensures c.if-launches.true

pub hit_launches-returns-then-is_hit : goal.hit_launches-returns-then-is_hit
hit_launches-returns-then-is_hit t c =
    hit_second (own_in c.args.outcomes.now) (view c.args.first.now) (view c.args.second.now) c.args.entry c.launches.result c.launches.ensures
    c.reply_in.result c.launches-then-is_hit.result c.is_hit.result c.reply_in.ensures c.is_hit.ensures c.if-is_hit.true c.if-launches.false c.launches-then-is_hit.ensures

pub hit_launches-returns : goal.hit_launches-returns
hit_launches-returns t c =
    hit_none (own_in c.args.outcomes.now) (view c.args.first.now) (view c.args.second.now) c.args.entry c.launches.result c.launches.ensures
    c.reply_in.result c.is_hit.result c.reply_in.ensures c.is_hit.ensures c.if-is_hit.false c.if-launches.false
