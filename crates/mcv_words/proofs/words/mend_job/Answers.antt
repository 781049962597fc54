use Rattle.std.proofs.Common.{◌∙◌, codes}
use Rattle.clap.specs.Words.{found_of}
use Rattle.clap.proofs.WalkLemmas.{one_text-rows}
use Rattle.mcv_words.proofs.words.mend_job.Goals as goal

pub returns : goal.returns
returns c =
    let found = found_of c.args.found.now in
    let patch = one_text-rows found (codes "patch") in
    (λ is. c.get_flag-patch.ensures.value (patch ∙ is), λ is. c.get_flag-patch.ensures.other (patch ∙ is), λ is. c.get_flag-patch.ensures.none (patch ∙ is))
