use Rattle.std.proofs.Common.{subst}
use Rattle.mcv_certify.specs.Gap.{IsRightFault}
use Rattle.mcv_witness.specs.Finding.{finding_of}
use Rattle.mcv_make.proofs.FindingsAreGaps.{first_of_gap}
use Rattle.mcv_make.proofs.making.make.Goals as goal

pub returns-in_ok-find-in-Err-Lost-clause-lost : goal.returns-in_ok-find-in-Err-Lost-clause-lost
returns-in_ok-find-in-Err-Lost-clause-lost c =
    let r = c.args.routes.now in
    let found = c.in_ok-find-in-Err-Lost in
    let first = subst (IsRightFault r) c.in-Err-Lost.field-0-is c.in-Err-Lost.ensures.lost in
    first_of_gap r c.servers-servers.ensures.sound c.in-Err-Lost.gap (finding_of found.field-0) found.ensures.shown.2.window first found.ensures.at_gap found.ensures.breaks
