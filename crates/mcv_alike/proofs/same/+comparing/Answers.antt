use Rattle.std.proofs.Common.{◌≡◌, ◌∙◌, ap, arith, ◌<◌, length, refl, rules, sym}
use Rattle.mcv_alike.proofs.SamePlans.{added-Send, all_like, none_needed, only_one, part_like, parts_like, pool_like, same-All, same-Beside, same-InTurn, same-OnHit, same-Shadowed, split-all, split-led, widened-All, widened-Beside}
use Rattle.mcv_alike.proofs.Growing.{parts_grow}
use Rattle.mcv_alike.proofs.same.+comparing.Goals as goal

pub are_same_plans-loop-number-preserved : goal.are_same_plans-loop-number-preserved
are_same_plans-loop-number-preserved t c = λ r n numbered.
    let olds = c.args.olds.now in
    let news = c.args.news.now in
    let i = c.loop-number.number in
    let test = c.loop-number-test.true in
    let lt : i < length olds = omega arith in
    let less : i < length news = omega arith in
    parts_grow r n olds news i c.index-olds-number.result c.index-news-number.result lt less c.index-olds-number.is c.index-news-number.is (c.loop-number.invariant r n numbered) (c.is_same_plan.ensures r n numbered c.if-not-is_same_plan.false)

pub is_same_plan-returns-in-All-new : goal.is_same_plan-returns-in-All-new
is_same_plan-returns-in-All-new t c = λ r n numbered is.
    same-All r n c.args.old.now c.args.new.now c.in-All.ones c.in-All-new.others c.in-All.is c.in-All-new.is
    (parts_like r n _ _ _ _ c.deref.ensures.value c.deref-in-All-new.ensures.value (c.are_same_plans.ensures r n numbered is))

pub is_same_plan-returns-in-Beside-new : goal.is_same_plan-returns-in-Beside-new
is_same_plan-returns-in-Beside-new t c = λ r n numbered is.
    same-Beside r n c.args.old.now c.args.new.now c.in-Beside.ones c.in-Beside-new.others c.in-Beside.is c.in-Beside-new.is
    (parts_like r n _ _ _ _ c.deref-in-Beside-new.ensures.value c.deref-in-Beside-new-2.ensures.value (c.are_same_plans-in-Beside-new.ensures r n numbered is))

pub is_same_plan-returns-then-is_same_search : goal.is_same_plan-returns-then-is_same_search
is_same_plan-returns-then-is_same_search t c = λ r n numbered is.
    same-InTurn r n c.args.old.now c.args.new.now c.in-InTurn.after c.in-InTurn-new.other c.in-InTurn.ones c.in-InTurn-new.others c.in-InTurn.is c.in-InTurn-new.is (c.is_same_search.ensures c.if-is_same_search.true)
    (parts_like r n _ _ _ _ c.deref-then-is_same_search.ensures.value c.deref-then-is_same_search-2.ensures.value (c.are_same_plans-then-is_same_search.ensures r n numbered is))

pub is_same_plan-returns-then-is_same_plan : goal.is_same_plan-returns-then-is_same_plan
is_same_plan-returns-then-is_same_plan t c = λ r n numbered is.
    same-OnHit r n c.args.old.now c.args.new.now c.in-OnHit.one c.in-OnHit.fill c.in-OnHit-new.other c.in-OnHit-new.filling c.in-OnHit.is c.in-OnHit-new.is
    (part_like r n _ _ _ _ c.deref-in-OnHit-new.ensures c.deref-in-OnHit-new-2.ensures (c.is_same_plan.ensures r n numbered c.if-is_same_plan.true))
    (part_like r n _ _ _ _ c.deref-then-is_same_plan.ensures c.deref-then-is_same_plan-2.ensures (c.is_same_plan-then-is_same_plan.ensures r n numbered is))

pub is_same_plan-returns-then-is_same_range : goal.is_same_plan-returns-then-is_same_range
is_same_plan-returns-then-is_same_range t c = λ r n numbered is.
    same-Shadowed r n c.args.old.now c.args.new.now c.in-Shadowed.symbol c.in-Shadowed.first c.in-Shadowed.last c.in-Shadowed-new.number c.in-Shadowed-new.least c.in-Shadowed-new.most c.in-Shadowed.target c.in-Shadowed-new.other c.in-Shadowed.is c.in-Shadowed-new.is
    (c.is_same_range.ensures.symbol r n numbered c.if-is_same_range.true) (c.is_same_range.ensures.first c.if-is_same_range.true) (c.is_same_range.ensures.last c.if-is_same_range.true)
    (part_like r n _ _ _ _ c.deref-then-is_same_range.ensures c.deref-then-is_same_range-2.ensures (c.is_same_plan-then-is_same_range.ensures r n numbered is))
