-- What is written of a verdict where its explanation is asked for: its text, and behind it the finding in sentences, or what the certificate compared (own).
use Rattle.std.specs.Prelude.{◌≡◌, ◌++◌, ℕ, Bool, true, false, List, [], Option, Some, None, length}
use Rattle.std.specs.List.{All}
use Rattle.serde_json.specs.Data.{Data}
use Rattle.mcv_cert.specs.Pair.{CertificateValue}
use Rattle.mcv_cert.specs.Reading.{Says, pairs}
use Rattle.mcv_cert.specs.Text.{certificate_text}
use Rattle.mcv_certify.specs.PickedReasons.{IsPickedOf}
use Rattle.mcv_explain.specs.Compared.{compared}
use Rattle.mcv_explain.specs.Explanation.{explanation}
use Rattle.mcv_explain.specs.Scene.{SceneValue}
use Rattle.mcv_input.specs.Fault.{AreNamedBy}
use Rattle.mcv_places.specs.Document.{IsDocument}
use Rattle.mcv_route.specs.Eras.{IsBreakTable, breaks_of}
use Rattle.mcv_route.specs.Routes.{RoutesValue, within}
use Rattle.mcv_verdict.specs.Text.{covered_line}
use Rattle.mcv_verdict.specs.Verdict.{AreCoveredBy, IsLossBy}
use Rattle.mcv_verdict.specs.declared.verdict.Verdict.{Verdict}
use Rattle.mcv_verdict.specs.declared.verdict.Verdict.TheVariants.{Covered, Lost}
use Rattle.mcv_witness.specs.Finding.{FindingValue}
use Rattle.mcv_witness.specs.Text.{finding_text}

abbrev pub scene : Data → RoutesValue → FindingValue → SceneValue
scene d r f = record { document = d; routes = r; finding = f }

-- a certificate that is given isn't written again
abbrev pub is_made : (certificate : Option (List ℕ)) → Bool
is_made None = true
is_made (Some given) = false

abbrev pub if_made : Bool → List ℕ → List ℕ
if_made true text = text
if_made false text = []

abbrev pub covered_explained : (made : Bool) → CertificateValue → (table : List ℕ) → List ℕ
covered_explained made c table = covered_line (length c.pairs) ++ if_made made (certificate_text c.window c.pairs) ++ compared c table

-- the certificate is the one that is given, or else one whose pairs give the first reasons that hold
abbrev pub IsCertificateOf : RoutesValue → (certificate : Option (List ℕ)) → CertificateValue → Type 0
IsCertificateOf r None c = All (IsPickedOf r) c.pairs
IsCertificateOf r (Some given) c = Says given (pairs c.window c.pairs)

-- the table has the moments at which what migrations do changes
abbrev pub IsExplainedVerdict : Data → RoutesValue → (certificate : Option (List ℕ)) → (table : List ℕ) → Verdict → (text : List ℕ) → Type 0
IsExplainedVerdict d r certificate table (Covered n) text =
    (c : CertificateValue) × AreCoveredBy r c × IsCertificateOf r certificate c × (n ≡ length c.pairs) × (text ≡ covered_explained (is_made certificate) c table)
IsExplainedVerdict d r None table Lost text = (f : FindingValue) × IsLossBy r f × (text ≡ finding_text r f ++ explanation (scene d r f) table)
IsExplainedVerdict d r (Some given) table Lost text = ⊥

abbrev pub IsExplainedOf : Data → RoutesValue → (certificate : Option (List ℕ)) → Verdict → (text : List ℕ) → Type 0
IsExplainedOf d r certificate verdict text = (table : List ℕ) × IsBreakTable (breaks_of r) table × IsExplainedVerdict d r certificate table verdict text

-- the input is a configuration that is this value and names routes, and the text explains the verdict on them within the window
abbrev pub IsExplainedOn : (input : List ℕ) → (window : ℕ) → (certificate : Option (List ℕ)) → Verdict → (text : List ℕ) → Type 0
IsExplainedOn input window certificate verdict text =
    (r : RoutesValue) × AreNamedBy input r × (d : Data) × IsDocument input d × IsExplainedOf d (within window r) certificate verdict text
