-- Which fault of a run is in an input (own).
use Rattle.std.specs.Prelude.{ℕ, List, ⊤}
use Rattle.mcv_base.specs.declared.operation.Op.{Op}
use Rattle.mcv_names.specs.declared.fault.ConfigFault.{ConfigFault}
use Rattle.mcv_input.specs.declared.fault.RunFault.{RunFault}
use Rattle.mcv_input.specs.declared.fault.RunFault.TheVariants.{Line, NoRoute, Config, CertificateText, Certificate, Window, Memory, Device}
use Rattle.mcv_input.specs.Fault.{IsConfigFault}
use Rattle.mcv_legs.specs.Request.{Asks, IsNoRequest}
use Rattle.mcv_legs.specs.Answer.{IsWithoutRoute}

-- the input asks, and the fault is in its configuration
pub record IsMisconfigured (input : List ℕ) (fault : ConfigFault) : Type 0 where
  pub op : Op
  pub prefix : List ℕ
  pub rest : List ℕ
  pub configuration : List ℕ
  pub asks : Asks input op prefix rest configuration
  pub faulty : IsConfigFault configuration fault

-- the fault is in the input, which has no certificate; out of memory and the failure of a device can come at any
abbrev pub IsRunFault : List ℕ → RunFault → Type 0
IsRunFault input Line = IsNoRequest input
IsRunFault input NoRoute = IsWithoutRoute input
IsRunFault input (Config fault) = IsMisconfigured input fault
IsRunFault input (CertificateText fault) = ⊥
IsRunFault input (Certificate fault) = ⊥
IsRunFault input Window = ⊥
IsRunFault input Memory = ⊤
IsRunFault input Device = ⊤
