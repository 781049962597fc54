use Rattle.std.proofs.Common.{◌≡◌, ◌∙◌, ap, arith, length, refl, rules, sym}
use Rattle.mcv_alike.proofs.SamePlans.{added-Send, all_like, none_needed, only_one, part_like, parts_like, pool_like, same-All, same-Beside, same-InTurn, same-OnHit, same-Shadowed, split-all, split-led, widened-All, widened-Beside}
use Rattle.mcv_alike.proofs.same.is_all_of.Goals as goal

pub returns-in-All : goal.returns-in-All
returns-in-All c = λ r n numbered is.
    all_like r n c.args.old.now c.in-All.olds c.args.news.now c.in-All.is (parts_like r n _ _ _ _ c.deref.ensures.value refl (c.are_same_plans.ensures r n numbered is))
