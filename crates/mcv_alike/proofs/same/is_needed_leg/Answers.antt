use Rattle.std.proofs.Common.{◌≡◌, ◌∙◌, ap, arith, length, refl, rules, sym}
use Rattle.mcv_alike.proofs.SamePlans.{added-Send, all_like, none_needed, only_one, part_like, parts_like, pool_like, same-All, same-Beside, same-InTurn, same-OnHit, same-Shadowed, split-all, split-led, widened-All, widened-Beside}
use Rattle.mcv_alike.specs.Numbers.{leg_value}
use Rattle.mcv_alike.proofs.same.is_needed_leg.Goals as goal

pub returns-then-is_counted_delete : goal.returns-then-is_counted_delete
returns-then-is_counted_delete c = λ r n numbered is. added-Send r n (leg_value c.args.needed.now) c.args.plan.now c.in-Send.leg c.in-Send.is (record {
  op = c.is_counted_delete.ensures.delete c.if-is_counted_delete.true;
  mark = c.is_counted_delete.ensures.counted c.if-is_counted_delete.true;
  pool = pool_like r n c.args.needed.now.symbol c.in-Send.leg.symbol _ _ _ _ c.deref.ensures.value (c.deref-then-is_counted_delete-2.ensures.value ∙ (λ i. (c.deref-then-is_counted_delete.ensures i).items)) (c.is_pool.ensures r n numbered is);
})
