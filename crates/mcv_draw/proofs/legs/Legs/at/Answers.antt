use Rattle.std.proofs.Common.{◌≡◌, List, ℕ, subst}
use Rattle.std.specs.Prelude.{option_map, slice_get}
use Rattle.mcv_draw.proofs.LegsInOrder.{leg_at}
use Rattle.mcv_draw.proofs.legs.Legs.at.Goals as goal

pub returns : goal.returns
returns c =
    subst (λ (xs : List (List ℕ)). option_map (λ x. x.now) c.get.result ≡ slice_get xs c.args.number) c.as_slice.ensures.value
    (leg_at c.as_slice.result.now c.args.number c.get.result c.get.ensures.lookup)
