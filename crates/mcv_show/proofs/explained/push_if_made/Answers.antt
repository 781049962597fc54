use Rattle.std.proofs.Common.{◌∙◌}
use Rattle.std.proofs.lemmas.Result.{on_ok_weaker}
use Rattle.mcv_cert.specs.Text.{certificate_text}
use Rattle.mcv_show.proofs.Verdicts.{is_added, is_left_out}
use Rattle.mcv_show.proofs.explained.push_if_made.Goals as goal

pub returns-then-is_made : goal.returns-then-is_made
returns-then-is_made c =
    on_ok_weaker c.push_certificate.result
    (λ is. is ∙ is_added c.args.is_made c.args.text.now.items (certificate_text c.args.certificate.now.window c.args.certificate.now.pairs) c.if-is_made.true) c.push_certificate.ensures

pub returns : goal.returns
returns c =
    is_left_out c.args.is_made c.args.text.now.items (certificate_text c.args.certificate.now.window c.args.certificate.now.pairs) c.if-is_made.false
