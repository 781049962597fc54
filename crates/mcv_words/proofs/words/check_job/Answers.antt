use Rattle.std.proofs.Common.{◌∙◌, codes}
use Rattle.clap.specs.Words.{found_of}
use Rattle.clap.proofs.WalkLemmas.{first_value-rows, one_text-rows}
use Rattle.mcv_words.proofs.words.check_job.Goals as goal

pub returns-clause-job : goal.returns-clause-job
returns-clause-job c =
    let found = found_of c.args.found.now in
    let explain = one_text-rows found (codes "explain") in
    let json = one_text-rows found (codes "json") in
    let quiet = one_text-rows found (codes "quiet") in (
      c.get_str-cert.ensures ∙ first_value-rows found (codes "cert"),
      rw c.in-Some.is at c.in_ok-window.ensures.number,
      (λ is. c.get_flag-explain.ensures.value (explain ∙ is), λ is. c.get_flag-explain.ensures.other (explain ∙ is), λ is. c.get_flag-explain.ensures.none (explain ∙ is)),
      (λ is. c.get_flag-json.ensures.value (json ∙ is), λ is. c.get_flag-json.ensures.other (json ∙ is), λ is. c.get_flag-json.ensures.none (json ∙ is)),
      (λ is. c.get_flag-quiet.ensures.value (quiet ∙ is), λ is. c.get_flag-quiet.ensures.other (quiet ∙ is), λ is. c.get_flag-quiet.ensures.none (quiet ∙ is)),
    )
