use Rattle.std.proofs.Common.{◌∙◌, ◌++◌, List, ℕ, ap}
use Rattle.mcv_cert.specs.Text.{certificate_text}
use Rattle.mcv_explain.specs.Compared.{compared}
use Rattle.mcv_verdict.specs.Text.{covered_line}
use Rattle.mcv_show.specs.Explained.{if_made}
use Rattle.mcv_show.proofs.explained.covered_text.Goals as goal

pub returns : goal.returns
returns c =
    let certificate = c.args.certificate.now in
    let behind = c.in_ok-push_compared.ensures in
    let made = if_made c.args.is_made (certificate_text certificate.window certificate.pairs) in
    let more = compared certificate behind.0 in (
      behind.0,
      behind.1,
      behind.2 ∙ (ap (λ (xs : List ℕ). xs ++ more) c.in_ok-push_if_made.ensures
          ∙ ap (λ (xs : List ℕ). (xs ++ made) ++ more) (c.in_ok-text.ensures ∙ ap covered_line c.len-pairs.ensures.value)),
    )
