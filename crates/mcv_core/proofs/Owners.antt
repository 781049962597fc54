-- The call and the entry of a leg, by what the core looks at of it.
use Rattle.std.proofs.Common.{◌≡◌, ◌∙◌, Option, Some, None, sym, ap}
use Rattle.std.specs.Prelude.{option_map, unwrap_or}
use Rattle.mcv_queues.specs.declared.leg.Leg.{Leg}
use Rattle.mcv_core.specs.declared.errand.Errand.{Errand}
use Rattle.mcv_core.specs.declared.facts.LegFacts.{LegFacts}
use Rattle.mcv_core.specs.declared.settle.Owner.{Owner}
use Rattle.mcv_core.specs.Facts.{facts_of}
use Rattle.mcv_core.specs.Settling.{IsOwner}

inner : (a b : LegFacts) → Some a ≡ Some b → a ≡ b
inner a b e = cc

pub owner_by : (owner : Owner) (facts : LegFacts) → owner.call ≡ unwrap_or facts.call 0 → owner.entry ≡ facts.entry → (o : Option (Leg Errand)) → option_map facts_of o ≡ Some facts → IsOwner o owner
owner_by owner facts call entry None e = absurd (cc)
owner_by owner facts call entry (Some l) e = let q = inner (facts_of l) facts e in record { call = call ∙ ap (λ f. unwrap_or f.call 0) (sym q); entry = entry ∙ ap (λ f. f.entry) (sym q) }
