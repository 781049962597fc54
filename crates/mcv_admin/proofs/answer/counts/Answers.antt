use Rattle.std.proofs.Common.{◌≡◌, ◌∙◌, ap}
use Rattle.std.proofs.lemmas.Result.{IfOk-weaker}
use Rattle.mcv_http.specs.Response.{response_text}
use Rattle.mcv_http.specs.declared.response.Status.TheVariants.{Done}
use Rattle.mcv_metrics.specs.Text.{metrics_text}
use Rattle.mcv_admin.specs.Replies.{metrics_type}
use Rattle.mcv_admin.proofs.answer.counts.Goals as goal

pub returns : goal.returns
returns g c =
    let snapshot = c.in_ok-snapshot.snapshot in
    let text : c.as_slice.result.now ≡ metrics_text snapshot = c.as_slice.ensures.value ∙ c.in_ok-text.ensures in
    IfOk-weaker c.response_bytes.result _ _ (λ bytes is. (snapshot, c.in_ok-snapshot.ensures, is ∙ ap (response_text Done metrics_type) text)) c.response_bytes.ensures
