-- What is said of a fault in a configuration beside its number and its path (own).
use Rattle.std.specs.Prelude.{◌≡◌, ℕ, List, [], ◌++◌, Option, Some, None, codes, decimal}
use Rattle.mcv_cert.specs.Escape.{escaped}
use Rattle.mcv_names.specs.Fault.{fault_path}
use Rattle.mcv_names.specs.declared.fault.ConfigFault.{ConfigFault}
use Rattle.mcv_names.specs.declared.fault.FaultKind.{FaultKind}
use Rattle.mcv_faults.specs.FaultName.{fault_name}
use Rattle.mcv_faults.specs.TextPlace.{IsPlaceAt, IsSaidAt}

-- the text between quotes that is at fault, where it is one
abbrev pub quoted : Option (List ℕ) → List ℕ
quoted None = []
quoted (Some text) = codes " \"" ++ escaped text ++ codes "\""

-- where it stands, where that is known
abbrev pub standing : Option (ℕ × ℕ) → List ℕ
standing None = []
standing (Some place) = codes ", line " ++ decimal place.0 ++ codes " column " ++ decimal place.1

-- `<name> "<text>", line <n> column <n>`
abbrev pub fault_line : FaultKind → Option (List ℕ) → Option (ℕ × ℕ) → List ℕ
fault_line kind text place = fault_name kind ++ quoted text ++ standing place

-- the line says the name of a fault of the configuration, which is the input, the text at fault, and where that stands
abbrev pub IsDetailOf : (input : List ℕ) → ConfigFault → (line : List ℕ) → Type 0
IsDetailOf input fault line =
    (said : Option (List ℕ)) × (place : Option (ℕ × ℕ)) × IsSaidAt input (fault_path fault) said × IsPlaceAt input (fault_path fault) place × (line ≡ fault_line fault.kind said place)
