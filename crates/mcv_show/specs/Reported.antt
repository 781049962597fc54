-- What is written of a verdict where a report is asked for: one JSON value, of the verdict or of the fault in its place (own).
use Rattle.std.specs.Prelude.{◌≡◌, ℕ, List, [], Option, Some, None, length}
use Rattle.serde_json.specs.Data.{Data}
use Rattle.mcv_cert.specs.Pair.{CertificateValue}
use Rattle.mcv_faults.specs.TextPlace.{IsPlaceAt}
use Rattle.mcv_input.specs.Fault.{AreNamedBy}
use Rattle.mcv_input.specs.declared.fault.RunFault.{RunFault}
use Rattle.mcv_input.specs.declared.fault.RunFault.TheVariants as faults
use Rattle.mcv_names.specs.Fault.{fault_path}
use Rattle.mcv_places.specs.Document.{IsDocument}
use Rattle.mcv_report.specs.CertificateReport.{covered_report}
use Rattle.mcv_report.specs.FaultReport.{config_fault_report, pair_fault_report, refused_report, text_fault_report, window_fault_report}
use Rattle.mcv_report.specs.FindingReport.{lost_report}
use Rattle.mcv_report.specs.Json.{IsJsonOf}
use Rattle.mcv_route.specs.Eras.{IsBreakTable, breaks_of}
use Rattle.mcv_route.specs.Routes.{RoutesValue, within}
use Rattle.mcv_show.specs.Explained.{IsCertificateOf, scene}
use Rattle.mcv_verdict.specs.Verdict.{AreCoveredBy, IsLossBy}
use Rattle.mcv_verdict.specs.declared.verdict.Verdict.{Verdict}
use Rattle.mcv_verdict.specs.declared.verdict.Verdict.TheVariants.{Covered, Lost}
use Rattle.mcv_witness.specs.Finding.{FindingValue}

abbrev pub IsReportedOf : Data → RoutesValue → (certificate : Option (List ℕ)) → Verdict → (text : List ℕ) → Type 0
IsReportedOf d r certificate (Covered n) text =
    (c : CertificateValue) × AreCoveredBy r c × IsCertificateOf r certificate c × (n ≡ length c.pairs) × IsJsonOf text (covered_report d c)
IsReportedOf d r None Lost text =
    (f : FindingValue) × IsLossBy r f × (table : List ℕ) × IsBreakTable (breaks_of r) table × IsJsonOf text (lost_report (scene d r f) table)
IsReportedOf d r (Some given) Lost text = ⊥

-- the input is a configuration that is this value and names routes, and the text reports the verdict on them within the window
abbrev pub IsReportedOn : (input : List ℕ) → (window : ℕ) → (certificate : Option (List ℕ)) → Verdict → (text : List ℕ) → Type 0
IsReportedOn input window certificate verdict text =
    (r : RoutesValue) × AreNamedBy input r × (d : Data) × IsDocument input d × IsReportedOf d (within window r) certificate verdict text

-- the text reports a fault of the configuration, which is the input, or of the certificate; of another fault there is no report
abbrev pub IsFaultText : (input : List ℕ) → RunFault → (text : List ℕ) → Type 0
IsFaultText input (faults.Config fault) text = (place : Option (ℕ × ℕ)) × IsPlaceAt input (fault_path fault) place × IsJsonOf text (refused_report (config_fault_report fault place))
IsFaultText input (faults.CertificateText fault) text = IsJsonOf text (refused_report (text_fault_report fault))
IsFaultText input (faults.Certificate fault) text = IsJsonOf text (refused_report (pair_fault_report fault))
IsFaultText input faults.Window text = IsJsonOf text (refused_report window_fault_report)
IsFaultText input faults.Line text = text ≡ []
IsFaultText input faults.NoRoute text = text ≡ []
IsFaultText input faults.Memory text = text ≡ []
IsFaultText input faults.Device text = text ≡ []
