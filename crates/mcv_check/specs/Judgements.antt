-- How far a certificate has been judged, from block to block. Only private contracts cite this.
use Rattle.std.specs.Prelude.{List, ◌∷◌, ◌++◌, ⊤}
use Rattle.std.specs.List.{AllZip}
use Rattle.mcv_cert.specs.Pair.{PairValue, SpotValue}
use Rattle.mcv_judge.specs.Faults.{AreInOrder, HaveSameFaults, IsFirstFault, IsInOrder}
use Rattle.mcv_judge.specs.Reason.{BlockValue}
use Rattle.mcv_judge.specs.declared.fault.PairFault.{PairFault}
use Rattle.mcv_route.specs.Routes.{RoutesValue}
use Rattle.mcv_blocks.specs.Sets.{SetsValue}
use Rattle.mcv_blocks.specs.Spots.{AreClassesInEras, IsBlockFor, IsBlockWith, ClassInEras}
use Rattle.mcv_check.specs.declared.fault.CheckFault.{CheckFault}
use Rattle.mcv_check.specs.declared.fault.CheckFault.TheVariants.{Memory, Pair, Window}

-- the block of the sets is in order
abbrev pub IsInOrderWith : (s g : SetsValue) → SpotValue → Type 0
IsInOrderWith s g at = (b : BlockValue) → IsBlockWith s g at b → IsInOrder b

-- these pairs are left behind the block of the sets, whatever blocks come later
pub record LeavesWith (s g : SetsValue) (at : SpotValue) (pairs rest : List PairValue) : Type 0 where
  pub block : BlockValue
  pub is : IsBlockWith s g at block
  pub same : (later : List BlockValue) → AreInOrder (block ∷ later) → HaveSameFaults pairs (block ∷ later) rest later

-- the fault at the block of the sets is the first, whatever blocks come later
pub record IsFirstWith (s g : SetsValue) (at : SpotValue) (pairs : List PairValue) (fault : PairFault) : Type 0 where
  pub block : BlockValue
  pub is : IsBlockWith s g at block
  pub first : (later : List BlockValue) → AreInOrder (block ∷ later) → IsFirstFault pairs (block ∷ later) fault

-- that, or memory ran out
abbrev pub StopsWith : (s g : SetsValue) → SpotValue → List PairValue → CheckFault → Type 0
StopsWith s g at pairs (Pair fault) = IsFirstWith s g at pairs fault
StopsWith s g at pairs Memory = ⊤
StopsWith s g at pairs Window = ⊥

-- the pairs have with the blocks at all spots the faults that those left have with the blocks at the spots left
abbrev pub IsJudged : RoutesValue → List PairValue → List ClassInEras → List PairValue → List ClassInEras → Type 0
IsJudged r pairs all rest left = (later : List BlockValue) → AllZip (IsBlockFor r) left later → (blocks : List BlockValue) × AllZip (IsBlockFor r) all blocks × HaveSameFaults pairs blocks rest later

-- these pairs are left behind the spots, whatever spots come later
abbrev pub Leaves : RoutesValue → List PairValue → List ClassInEras → List PairValue → Type 0
Leaves r pairs spots rest = (more : List ClassInEras) → AreClassesInEras r (spots ++ more) → IsJudged r pairs (spots ++ more) rest more

-- the fault is the first, whatever spots come later. Memory may run out anywhere
abbrev pub Stops : RoutesValue → List PairValue → List ClassInEras → CheckFault → Type 0
Stops r pairs spots (Pair fault) = (more : List ClassInEras) → AreClassesInEras r (spots ++ more) → (blocks : List BlockValue) × AllZip (IsBlockFor r) (spots ++ more) blocks × IsFirstFault pairs blocks fault
Stops r pairs spots Memory = ⊤
Stops r pairs spots Window = ⊥
