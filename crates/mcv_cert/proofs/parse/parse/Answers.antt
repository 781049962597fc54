use Rattle.std.proofs.Common.{◌∙◌, ap, map}
use Rattle.std.specs.List.{slice_split}
use Rattle.mcv_cert.proofs.Spelled.{text_words}
use Rattle.mcv_cert.proofs.parse.parse.Goals as goal

pub returns-clause-meant : goal.returns-clause-meant
returns-clause-meant c = λ p is e.
    c.pair_of_words.ensures.meant p is
    (ap (map (λ w. w.now)) c.as_slice.ensures.value ∙ c.in_ok-words.ensures ∙ ap (slice_split _) e ∙ text_words c.args.window p is)
