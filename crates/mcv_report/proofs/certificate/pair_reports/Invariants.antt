use Rattle.std.proofs.Common.{◌≡◌, map, take}
use Rattle.serde_json.specs.View.{view}
use Rattle.mcv_cert.specs.Pair.{pair_of}
use Rattle.mcv_report.specs.CertificateReport.{pair_report}
use Rattle.mcv_report.proofs.certificate.pair_reports.Given as goal

abbrev pub invariant-loop-pair : goal.invariant-loop-pair
invariant-loop-pair l = map view l.reports.items ≡ map (pair_report (view l.document)) (map pair_of (take l.pair-index l.pairs))
