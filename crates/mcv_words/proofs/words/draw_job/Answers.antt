use Rattle.std.proofs.Common.{◌∙◌, codes}
use Rattle.clap.specs.Words.{found_of}
use Rattle.clap.proofs.WalkLemmas.{one_text-rows}
use Rattle.mcv_words.proofs.words.draw_job.Goals as goal

pub returns : goal.returns
returns c =
    let found = found_of c.args.found.now in
    let dot = one_text-rows found (codes "dot") in
    (λ is. c.get_flag-dot.ensures.value (dot ∙ is), λ is. c.get_flag-dot.ensures.other (dot ∙ is), λ is. c.get_flag-dot.ensures.none (dot ∙ is))
