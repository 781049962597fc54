use Rattle.std.proofs.Common.{◌≡◌, ◌≤◌, ◌∙◌, Some, ap, subst, sym}
use Rattle.std.proofs.lemmas.Result.{IfOk-weaker}
use Rattle.serde_json.specs.Data.{Data, depth}
use Rattle.serde_json.specs.Read.{max_depth, read}
use Rattle.mcv_report.specs.FaultReport.{refused_report}
use Rattle.mcv_report.proofs.Depths.{certificate_refused_within}
use Rattle.mcv_report.proofs.fault.certificate_refused_text.Goals as goal

pub returns : goal.returns
returns c =
    let made = c.in_ok-report.ensures ∙ ap refused_report c.in_ok-fault.ensures in
    IfOk-weaker c.report_text.result _ _
    (λ text is. (
      is.0,
      is.1,
      subst (λ (d : Data). read is.0 ≡ Some d) made
          (is.2 (subst (λ (d : Data). depth d ≤ max_depth) (sym made) (certificate_refused_within c.args.kind.now c.args.line c.args.name.now c.args.number))),
    )) c.report_text.ensures
