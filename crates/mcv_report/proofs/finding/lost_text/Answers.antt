use Rattle.std.proofs.Common.{◌≡◌, ◌≤◌, Some, map, subst, sym}
use Rattle.std.proofs.lemmas.Result.{IfOk-weaker}
use Rattle.serde_json.specs.Data.{Data, depth}
use Rattle.serde_json.specs.Read.{max_depth, read}
use Rattle.mcv_base.specs.declared.request.Moment.{Moment}
use Rattle.mcv_explain.specs.Scene.{scene_of}
use Rattle.mcv_report.proofs.Depths.{lost_within}
use Rattle.mcv_report.proofs.finding.lost_text.Goals as goal

pub returns : goal.returns
returns c =
    let table = map (λ (m : Moment). m.0) c.breaks-table.result.now in
    let made = c.in_ok-report.ensures in
    IfOk-weaker c.report_text.result _ _
    (λ text is. (
      table,
      c.breaks-table.ensures,
      (
        is.0,
        is.1,
        subst (λ (d : Data). read is.0 ≡ Some d) made
            (is.2 (subst (λ (d : Data). depth d ≤ max_depth) (sym made) (lost_within (scene_of c.args.scene.now) table))),
      ),
    )) c.report_text.ensures
