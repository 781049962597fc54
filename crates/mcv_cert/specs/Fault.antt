-- Why a certificate's text isn't read.
use Rattle.std.specs.Prelude.{ℕ}
use Rattle.mcv_cert.specs.declared.fault.CertFault.{CertFault}
use Rattle.mcv_cert.specs.declared.fault.CertFault.TheVariants.{Text, Memory}
use Rattle.mcv_cert.specs.declared.fault.CertTextFault.{CertTextFault}
use Rattle.mcv_cert.specs.declared.fault.CertTextFault.TheVariants.{Syntax, Order, Limit}
use Rattle.mcv_cert.specs.Reading.{Reading, broken, unordered, too_long}

-- what a text with this fault says
abbrev pub reading_of : CertTextFault → Reading
reading_of (Syntax line) = broken line
reading_of (Order line) = unordered line
reading_of Limit = too_long

-- the text says what the fault reports; memory may run out at any text
abbrev pub IsFaultOfText : (Reading → Type 0) → CertFault → Type 0
IsFaultOfText says (Text fault) = says (reading_of fault)
IsFaultOfText says Memory = Unit {0}

abbrev pub fault_number : CertTextFault → ℕ
fault_number (Syntax line) = 1
fault_number (Order line) = 2
fault_number Limit = 3

-- the line at fault, from 1
abbrev pub fault_line : CertTextFault → ℕ
fault_line (Syntax line) = line
fault_line (Order line) = line
fault_line Limit = 1
