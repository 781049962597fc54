-- Which verdict there is on a configuration, and what is written of it.
use Rattle.std.specs.Prelude.{◌≡◌, ◌<◌, ℕ, List, ◌++◌, Option, Some, None, length}
use Rattle.std.specs.List.{All}
use Rattle.mcv_cert.specs.Pair.{CertificateValue, IsCertificate}
use Rattle.mcv_cert.specs.Reading.{Says, pairs}
use Rattle.mcv_cert.specs.Text.{certificate_text}
use Rattle.mcv_route.specs.Routes.{RoutesValue, within}
use Rattle.mcv_symbolic.specs.CoveredRoutes.{AreCovered}
use Rattle.mcv_blocks.specs.Blocks.{IsJustifiedBy}
use Rattle.mcv_certify.specs.PickedReasons.{IsPickedOf}
use Rattle.mcv_input.specs.Fault.{AreNamedBy}
use Rattle.mcv_make.specs.FirstFinding.{IsFirstFinding}
use Rattle.mcv_make.specs.ShownFinding.{IsShown}
use Rattle.mcv_witness.specs.Finding.{FindingValue, finding_of}
use Rattle.mcv_witness.specs.Text.{finding_text}
use Rattle.mcv_verdict.specs.declared.verdict.Judged.{Judged}
use Rattle.mcv_verdict.specs.declared.verdict.Judged.TheVariants as judged
use Rattle.mcv_verdict.specs.declared.verdict.Judgement.{Judgement}
use Rattle.mcv_verdict.specs.declared.verdict.Judgement.TheVariants as judgements
use Rattle.mcv_verdict.specs.declared.verdict.Verdict.{Verdict}
use Rattle.mcv_verdict.specs.declared.verdict.Verdict.TheVariants.{Covered, Lost}
use Rattle.mcv_verdict.specs.Text.{covered_line}

-- each acknowledged delete was sent to every server that can be read within the window of the routes, and the certificate says why
pub record AreCoveredBy (r : RoutesValue) (c : CertificateValue) : Type 0 where
  pub covered : AreCovered r
  pub justified : IsJustifiedBy r c
  -- its pairs rise strictly, so that none comes twice, each `all` names a leg, and each has the eras of the window
  pub certificate : IsCertificate c

-- some acknowledged delete wasn't sent to a server of the table that can be read: the finding shows it, and none shows it at an earlier place
pub record IsLossBy (r : RoutesValue) (f : FindingValue) : Type 0 where
  pub uncovered : ¬ AreCovered r
  pub known : f.server < length r.servers
  pub first : IsFirstFinding r f
  -- its key, indexes and outcomes are those that the rules of findings give
  pub shown : IsShown r f

-- where no certificate is given: the routes are covered, and the number of pairs of a certificate is written, whose pairs give the first reasons that hold, and then the certificate; or they aren't, and the text of the first finding is written
abbrev pub IsVerdict : RoutesValue → Verdict → (text : List ℕ) → Type 0
IsVerdict r (Covered n) text = (c : CertificateValue) × AreCoveredBy r c × All (IsPickedOf r) c.pairs × (n ≡ length c.pairs) × (text ≡ covered_line n ++ certificate_text c.window c.pairs)
IsVerdict r Lost text = (f : FindingValue) × IsLossBy r f × (text ≡ finding_text r f)

-- what is found of routes where no certificate is given: they are those that were accepted, and are covered by the certificate that was made; or they aren't, and this is the text of the first finding
abbrev pub IsJudgement : RoutesValue → Judgement → Type 0
IsJudgement r (judgements.Covered accepted certificate) = (accepted ≡ r) × AreCoveredBy r certificate × All (IsPickedOf r) certificate.pairs
IsJudgement r (judgements.Lost finding) = IsVerdict r Lost finding.items

-- the same, with the finding itself
abbrev pub IsJudged : RoutesValue → Judged → Type 0
IsJudged r (judged.Covered accepted certificate) = (accepted ≡ r) × AreCoveredBy r certificate × All (IsPickedOf r) certificate.pairs
IsJudged r (judged.Lost routes finding) = (routes ≡ r) × IsLossBy r (finding_of finding)

-- where a certificate's text is given: the routes are those that were accepted, and are covered by the pairs that it says
abbrev pub IsJudgedBy : RoutesValue → (certificate : List ℕ) → Judged → Type 0
IsJudgedBy r text (judged.Covered accepted certificate) = (accepted ≡ r) × Says text (pairs certificate.window certificate.pairs) × AreCoveredBy r certificate
IsJudgedBy r text (judged.Lost routes finding) = ⊥

abbrev pub IsJudgedFor : RoutesValue → (certificate : Option (List ℕ)) → Judged → Type 0
IsJudgedFor r None found = IsJudged r found
IsJudgedFor r (Some text) found = IsJudgedBy r text found

-- where a certificate's text is given: it says pairs by which the routes are covered, and their number is written
abbrev pub IsVerdictBy : RoutesValue → (certificate : List ℕ) → Verdict → (text : List ℕ) → Type 0
IsVerdictBy r certificate (Covered n) text = (c : CertificateValue) × Says certificate (pairs c.window c.pairs) × AreCoveredBy r c × (n ≡ length c.pairs) × (text ≡ covered_line n)
IsVerdictBy r certificate Lost text = ⊥

-- by the certificate's text that is given, or by none
abbrev pub IsVerdictFor : RoutesValue → (certificate : Option (List ℕ)) → Verdict → (text : List ℕ) → Type 0
IsVerdictFor r None verdict text = IsVerdict r verdict text
IsVerdictFor r (Some certificate) verdict text = IsVerdictBy r certificate verdict text

-- the input is a configuration that names routes, and this is the verdict on them within the window
abbrev pub IsVerdictOn : (input : List ℕ) → (window : ℕ) → (certificate : Option (List ℕ)) → Verdict → (text : List ℕ) → Type 0
IsVerdictOn input window certificate verdict text = (r : RoutesValue) × AreNamedBy input r × IsVerdictFor (within window r) certificate verdict text
