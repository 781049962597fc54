use Rattle.std.proofs.Common.{◌≡◌, map, take}
use Rattle.serde_json.specs.View.{view}
use Rattle.mcv_explain.specs.Scene.{scene_of}
use Rattle.mcv_report.specs.FindingReport.{leg_report}
use Rattle.mcv_witness.specs.Finding.{outcomes_of}
use Rattle.mcv_report.proofs.finding.leg_reports.Given as goal

abbrev pub invariant-loop-leg : goal.invariant-loop-leg
invariant-loop-leg l = map view l.reports.items ≡ map (leg_report (scene_of l.scene) l.op) (outcomes_of (take l.leg-index l.legs))
