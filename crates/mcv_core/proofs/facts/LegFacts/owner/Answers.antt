use Rattle.std.proofs.Common.{refl}
use Rattle.mcv_core.specs.declared.settle.Owner.{Owner}
use Rattle.mcv_core.proofs.Owners
use Rattle.mcv_core.proofs.facts.LegFacts.owner.Goals as goal

pub returns-clause-owner : goal.returns-clause-owner
returns-clause-owner c = λ leg e.
    let owner : Owner = record { server = c.args.self.server; call = c.unwrap_or.result; entry = c.args.self.entry } in
    Owners.owner_by owner c.args.self c.unwrap_or.ensures refl leg e
