use Rattle.std.proofs.Common.{◌≡◌, ◌≤◌, Some, subst, sym}
use Rattle.std.proofs.lemmas.Result.{IfOk-weaker}
use Rattle.serde_json.specs.Data.{Data, depth}
use Rattle.serde_json.specs.Read.{max_depth, read}
use Rattle.serde_json.specs.View.{view}
use Rattle.mcv_report.proofs.Depths.{covered_within}
use Rattle.mcv_report.proofs.certificate.covered_text.Goals as goal

pub returns : goal.returns
returns c =
    let made = c.in_ok-report.ensures in
    IfOk-weaker c.report_text.result _ _
    (λ text is. (
      is.0,
      is.1,
      subst (λ (d : Data). read is.0 ≡ Some d) made
          (is.2 (subst (λ (d : Data). depth d ≤ max_depth) (sym made) (covered_within (view c.args.document.now) c.args.certificate.now))),
    )) c.report_text.ensures
