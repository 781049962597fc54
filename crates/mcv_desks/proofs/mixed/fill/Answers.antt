use Rattle.std.proofs.Common.{◌≡◌, List, None, Option, Some, refl, slice_get, subst}
use Rattle.mcv_base.specs.declared.reply.Part.{Part}
use Rattle.mcv_desks.proofs.mixed.fill.Goals as goal

pub returns-clause-filled : goal.returns-clause-filled
returns-clause-filled c = λ _. record {
  was = subst (λ (rs : List (Option Part)). slice_get rs c.args.key ≡ Some None) c.as_slice.ensures.value (c.is_vacant.ensures c.if-not-is_vacant.false);
  is = refl;
}
