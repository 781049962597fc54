use Rattle.std.proofs.Common.{◌∙◌, ap}
use Rattle.std.specs.Str.Lossy.{utf8_lossy}
use Rattle.std.proofs.lemmas.Result.{IfOk-weaker}
use Rattle.mcv_command.proofs.detail.detail_of.Goals as goal

pub returns : goal.returns
returns c =
    IfOk-weaker c.from_utf8_lossy.result _ _
    (λ text is. (c.in_ok-line.line.items, c.in_ok-line.ensures, is ∙ ap utf8_lossy c.as_slice.ensures.value)) c.from_utf8_lossy.ensures.lossy
