use Rattle.std.proofs.Common.{◌≡◌, ◌∙◌, ap, arith, length, refl, rules, sym}
use Rattle.mcv_alike.proofs.SamePlans.{added-Send, all_like, none_needed, only_one, part_like, parts_like, pool_like, same-All, same-Beside, same-InTurn, same-OnHit, same-Shadowed, split-all, split-led, widened-All, widened-Beside}
use Rattle.mcv_alike.proofs.same.is_same_leg.Goals as goal

pub returns-then-is_same_way : goal.returns-then-is_same_way
returns-then-is_same_way c = λ r n numbered is. record {
  op = c.is_same_way.ensures.op c.if-is_same_way.true;
  mark = c.is_same_way.ensures.mark c.if-is_same_way.true;
  pool = pool_like r n c.args.old.now.symbol c.args.new.now.symbol _ _ _ _ (c.deref-then-is_same_way.ensures.value ∙ (λ i. (c.deref.ensures i).items)) (c.deref-then-is_same_way-3.ensures.value ∙ (λ i. (c.deref-then-is_same_way-2.ensures i).items)) (c.is_pool.ensures r n numbered is);
}
