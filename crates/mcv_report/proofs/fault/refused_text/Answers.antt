use Rattle.std.proofs.Common.{◌≡◌, ◌≤◌, ◌∙◌, Some, ap, option_map, subst, sym}
use Rattle.std.proofs.lemmas.Result.{IfOk-weaker}
use Rattle.serde_json.specs.Data.{Data, depth}
use Rattle.serde_json.specs.Read.{max_depth, read}
use Rattle.mcv_report.specs.FaultReport.{refused_report}
use Rattle.mcv_report.proofs.Depths.{refused_within}
use Rattle.mcv_report.proofs.fault.refused_text.Goals as goal

pub returns : goal.returns
returns c =
    let made = c.in_ok-report.ensures ∙ ap refused_report c.in_ok-config_fault_report.ensures in
    IfOk-weaker c.report_text.result _ _
    (λ text is. (
      is.0,
      is.1,
      subst (λ (d : Data). read is.0 ≡ Some d) made
          (is.2 (subst (λ (d : Data). depth d ≤ max_depth) (sym made) (refused_within c.args.fault.now (option_map (λ p. (p.line, p.column)) c.args.place)))),
    )) c.report_text.ensures
