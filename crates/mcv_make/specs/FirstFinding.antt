-- What is shown of routes that aren't covered: the first finding (own).
use Rattle.std.specs.Prelude.{◌≡◌}
use Rattle.std.specs.declared.cmp.Ordering.TheVariants.{Less}
use Rattle.mcv_cert.specs.Pair.{index_cmp}
use Rattle.mcv_make.specs.declared.fault.MakeFault.{MakeFault}
use Rattle.mcv_make.specs.declared.fault.MakeFault.TheVariants.{Lost, Memory}
use Rattle.mcv_route.specs.Routes.{RoutesValue}
use Rattle.mcv_witness.specs.Breaks.{BreaksCoverage}
use Rattle.mcv_witness.specs.Finding.{FindingValue, finding_of}
use Rattle.mcv_witness.specs.declared.finding.Finding.{Finding}

-- the finding breaks coverage within the window of the routes, and none at an earlier place, or at an earlier index of this one, does
pub record IsFirstFinding (r : RoutesValue) (f : FindingValue) : Type 0 where
  pub window : f.window ≡ r.window
  pub breaks : BreaksCoverage r f
  pub first : (g : FindingValue) → g.window ≡ r.window → index_cmp g.place g.at f.place f.at ≡ Less → BreaksCoverage r g → ⊥

-- what is shown to be lost is a first finding
abbrev pub IsRightLoss : RoutesValue → MakeFault → Type 0
IsRightLoss r (Lost f) = IsFirstFinding r (finding_of f)
IsRightLoss r Memory = Unit {0}

-- what holds of the finding, if there is one
abbrev pub IfLost : MakeFault → (Finding → Type 0) → Type 0
IfLost (Lost f) P = P f
IfLost Memory P = Unit {0}
