use Rattle.std.proofs.Common.{◌∙◌, sym}
use Rattle.mcv_mend.proofs.covered.is_covered.Goals as goal

pub returns-in-Ok-clause-covered : goal.returns-in-Ok-clause-covered
returns-in-Ok-clause-covered c = λ _. c.justified_is_covered.ensures c.args.routes.now c.in-Ok.certificate c.servers-servers.ensures.sound c.pairs.ensures.sound.rising c.in-Ok.ensures.justified

pub returns-in-Err-Lost-clause-lost : goal.returns-in-Err-Lost-clause-lost
returns-in-Err-Lost-clause-lost c = λ _ covered.
    let never = sym c.in-Err-Lost.field-0-is ∙ c.in-Err-Lost.ensures.covered covered in
    absurd cc
