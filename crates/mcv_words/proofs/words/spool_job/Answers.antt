use Rattle.std.proofs.Common.{◌≡◌, ◌∙◌, None, Option, codes, subst, sym}
use Rattle.std.specs.Prelude.{IsSome}
use Rattle.clap.specs.Words.{Text, first_of, found_of, rows_of}
use Rattle.clap.proofs.WalkLemmas.{first_value-rows, one_text-rows}
use Rattle.mcv_words.proofs.words.spool_job.Goals as goal

pub returns-in_default-clause-ok : goal.returns-in_default-clause-ok
returns-in_default-clause-ok c given =
    let found = found_of c.args.found.now in
    let none : None ≡ first_of (codes "file") (rows_of found) = c.in_default.ensures ∙ first_value-rows found (codes "file") in
    subst (λ (o : Option Text). IsSome o) (sym none) given

pub returns-clause-job : goal.returns-clause-job
returns-clause-job c =
    let found = found_of c.args.found.now in
    let all = one_text-rows found (codes "all") in (
      sym (c.in-Some.ensures ∙ first_value-rows found (codes "file")),
      (λ is. c.get_flag-all.ensures.value (all ∙ is), λ is. c.get_flag-all.ensures.other (all ∙ is), λ is. c.get_flag-all.ensures.none (all ∙ is)),
    )
