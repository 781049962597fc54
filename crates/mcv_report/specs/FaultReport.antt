-- The report on a fault (own). docs/report.schema.json has its schema.
use Rattle.std.specs.Prelude.{ℕ, List, [], ◌∷◌, Option, Some, None, codes, option_map}
use Rattle.serde_json.specs.Data.{Data, null}
use Rattle.mcv_cert.specs.Fault as cert_text
use Rattle.mcv_cert.specs.declared.fault.CertTextFault.{CertTextFault}
use Rattle.mcv_cert.specs.declared.fault.CertTextFault.TheVariants.{Syntax, Order, Limit}
use Rattle.mcv_judge.specs.Numbers.{number_of}
use Rattle.mcv_judge.specs.declared.fault.PairFault.{PairFault}
use Rattle.mcv_judge.specs.declared.fault.PairFault.TheVariants.{Missing, Stray, NotAcknowledged, OtherServer, CanBeAcknowledged}
use Rattle.mcv_names.specs.declared.fault.ConfigFault.{ConfigFault}
use Rattle.mcv_names.specs.Fault.{fault_number, fault_path}
use Rattle.mcv_faults.specs.FaultName.{fault_name}
use Rattle.mcv_faults.specs.FaultPointer.{fault_pointer}
use Rattle.mcv_report.specs.Json.{number_from, number_or_null, object_from, schema_version, text_from}

abbrev pub line_of : Option (ℕ × ℕ) → Option ℕ
line_of place = option_map (λ p. p.0) place

abbrev pub column_of : Option (ℕ × ℕ) → Option ℕ
column_of place = option_map (λ p. p.1) place

-- a fault of the configuration: its column and its line where they are known, its name, its number, and the pointer to what is wrong
unfoldable pub placed_fault_report : (column line : Option ℕ) → (name : List ℕ) → (number : ℕ) → (pointer : List ℕ) → Data
placed_fault_report column line name number pointer = object_from (
    (codes "column", number_or_null column)
    ∷ (codes "kind", text_from (codes "configuration"))
    ∷ (codes "line", number_or_null line)
    ∷ (codes "name", text_from name)
    ∷ (codes "number", number_from number)
    ∷ (codes "pointer", text_from pointer) ∷ [])

-- with a line and a column for a place
abbrev pub config_fault_report : ConfigFault → Option (ℕ × ℕ) → Data
config_fault_report f place =
    placed_fault_report (column_of place) (line_of place) (fault_name f.kind) (fault_number f) (fault_pointer (fault_path f))

-- ---- faults of a certificate

abbrev pub text_fault_name : CertTextFault → List ℕ
text_fault_name (Syntax line) = codes "no line of a certificate"
text_fault_name (Order line) = codes "line out of order"
text_fault_name Limit = codes "over a limit"

abbrev pub pair_fault_name : PairFault → List ℕ
pair_fault_name Missing = codes "readable server without a line"
pair_fault_name Stray = codes "line for what can't be read"
pair_fault_name NotAcknowledged = codes "leg that not every delete has sent"
pair_fault_name OtherServer = codes "other hash, number of legs or server"
pair_fault_name CanBeAcknowledged = codes "never, where a delete can be acknowledged"

-- they are nowhere in the configuration
unfoldable pub certificate_fault_report : (kind : List ℕ) → (line : Option ℕ) → (name : List ℕ) → (number : ℕ) → Data
certificate_fault_report kind line name number = object_from (
    (codes "column", null)
    ∷ (codes "kind", text_from kind)
    ∷ (codes "line", number_or_null line)
    ∷ (codes "name", text_from name)
    ∷ (codes "number", number_from number)
    ∷ (codes "pointer", null) ∷ [])

abbrev pub text_fault_report : CertTextFault → Data
text_fault_report f = certificate_fault_report (codes "certificate text") (Some (cert_text.fault_line f)) (text_fault_name f) (cert_text.fault_number f)

abbrev pub pair_fault_report : PairFault → Data
pair_fault_report f = certificate_fault_report (codes "certificate") None (pair_fault_name f) (number_of f)

-- the certificate is for another window
abbrev pub window_fault_report : Data
window_fault_report = certificate_fault_report (codes "certificate") None (codes "another window") 7

-- ---- the whole

unfoldable pub refused_report : (fault : Data) → Data
refused_report fault = object_from (
    (codes "fault", fault)
    ∷ (codes "schema_version", number_from schema_version)
    ∷ (codes "verdict", text_from (codes "refused")) ∷ [])
