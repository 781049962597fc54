use Rattle.std.proofs.Common.{◌≡◌, ◌∙◌, ap, arith, length, refl, rules, sym}
use Rattle.mcv_alike.proofs.SamePlans.{added-Send, all_like, none_needed, only_one, part_like, parts_like, pool_like, same-All, same-Beside, same-InTurn, same-OnHit, same-Shadowed, split-all, split-led, widened-All, widened-Beside}
use Rattle.mcv_alike.proofs.same.is_only.Goals as goal

pub returns : goal.returns
returns c = λ r n numbered is.
    let count : length c.args.news.now ≡ 1 = omega arith in
    only_one r n c.args.old.now c.index-news-0.result c.args.news.now count c.index-news-0.is (c.is_same_plan.ensures r n numbered is)
