-- What is written of a configuration (own).
use Rattle.std.specs.Prelude.{◌≡◌, ⊤, ℕ, List, All}
use Rattle.mcv_input.specs.Fault.{AreNamedBy, IsConfigFault, IsInputFault}
use Rattle.mcv_input.specs.declared.fault.RunFault.TheVariants.{Memory}
use Rattle.mcv_names.specs.declared.fault.ConfigFault.{ConfigFault}
use Rattle.mcv_route.specs.Routes.{RoutesValue}
use Rattle.mcv_symbolic.specs.CoveredRoutes.{AreCovered}
use Rattle.mcv_mend.specs.Kept.{IsKeptIn}
use Rattle.mcv_mended.specs.Mend.{IsMendOf}
use Rattle.mcv_needs.specs.Needs.{IsLeastNeed, NeedValue}
use Rattle.mcv_mend.specs.declared.fault.MendFault.{MendFault}
use Rattle.mcv_mend.specs.declared.fault.MendFault.TheVariants.{GaveUp, Limit, Run}
use Rattle.mcv_mend.specs.declared.fault.Mending.{Mending}
use Rattle.mcv_mend.specs.declared.fault.Mending.TheVariants.{Mended, Unchanged}

-- the text names routes that are covered, and are the first ones mended by these needs
pub record NamesMended (r : RoutesValue) (needs : List NeedValue) (text : List ℕ) : Type 0 where
  pub routes : RoutesValue
  pub named : AreNamedBy text routes
  pub covered : AreCovered routes
  pub mended : IsMendOf r routes needs

-- the routes aren't covered; the text keeps the input, and names the routes mended by what each class needs at least
pub record IsMendedText (r : RoutesValue) (input text : List ℕ) : Type 0 where
  pub uncovered : AreCovered r → ⊥
  pub kept : IsKeptIn input text
  pub needs : List NeedValue
  pub least : All (IsLeastNeed r) needs
  pub mended : NamesMended r needs text

-- a covered configuration stays byte for byte
abbrev pub IsMending : RoutesValue → (input : List ℕ) → Mending → (text : List ℕ) → Type 0
IsMending r input Unchanged text = AreCovered r × (text ≡ input)
IsMending r input Mended text = IsMendedText r input text

-- the input is a configuration that names routes, and this is what is written of it
abbrev pub IsMendingOn : (input : List ℕ) → Mending → (text : List ℕ) → Type 0
IsMendingOn input mending text = (r : RoutesValue) × AreNamedBy input r × IsMending r input mending text

-- the input names routes that aren't covered
abbrev pub IsLostInput : (input : List ℕ) → Type 0
IsLostInput input = (r : RoutesValue) × AreNamedBy input r × (AreCovered r → ⊥)

-- the fault is in a text that keeps the input
abbrev pub IsFaultOfMended : (input : List ℕ) → ConfigFault → Type 0
IsFaultOfMended input fault = (text : List ℕ) × IsKeptIn input text × IsConfigFault text fault

-- why nothing is written: the input names no configuration, or memory ran out, or a device failed; or it names routes that aren't covered, and the mended text is at fault, or no change was found
abbrev pub IsMendFault : (input : List ℕ) → MendFault → Type 0
IsMendFault input (Run fault) = IsInputFault input fault
IsMendFault input (Limit fault) = IsLostInput input × IsFaultOfMended input fault
IsMendFault input GaveUp = IsLostInput input

-- memory ran out, or the configuration isn't mended
abbrev pub IsNotMended : (input : List ℕ) → MendFault → Type 0
IsNotMended input (Run fault) = fault ≡ Memory
IsNotMended input (Limit fault) = IsFaultOfMended input fault
IsNotMended input GaveUp = ⊤

-- memory ran out, or the text is at fault, or it isn't the mended one
abbrev pub IsRefusedText : (text : List ℕ) → MendFault → Type 0
IsRefusedText text (Run fault) = fault ≡ Memory
IsRefusedText text (Limit fault) = IsConfigFault text fault
IsRefusedText text GaveUp = ⊤
