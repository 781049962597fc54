use Rattle.std.proofs.Common.{◌≡◌, ◌∙◌, ◌<◌, ◌++◌, ap₂, arith, length, refl, rules, sym}
use Rattle.mcv_alike.proofs.SamePlans.{added-Send, all_like, none_needed, only_one, part_like, parts_like, pool_like, same-All, same-Beside, same-InTurn, same-OnHit, same-Shadowed, split-all, split-led, widened-All, widened-Beside}
use Rattle.std.proofs.lemmas.List.{take-append-drop}
use Rattle.mcv_alike.specs.Numbers.{legs_value}
use Rattle.mcv_alike.proofs.same.is_beside_widened.Goals as goal

pub returns-then-are_same_plans : goal.returns-then-are_same_plans
returns-then-are_same_plans c = λ r n numbered is.
    let front = c.split_at.result.0.now in
    let count = c.split_at.ensures.front_len in
    let some : 0 < length front = omega (arith, count) in
    split-led r n (legs_value c.args.needed.now) c.args.old.now c.in-Beside.olds c.args.news.now front c.split_at.result.1.now c.in-Beside.is (sym (take-append-drop _ c.args.news.now) ∙ ap₂ ◌++◌ (sym c.split_at.ensures.front) (sym c.split_at.ensures.back)) some
    (parts_like r n _ _ _ _ c.deref.ensures.value refl (c.are_same_plans.ensures r n numbered c.if-are_same_plans.true)) (c.are_needed_legs.ensures r n numbered is)
