-- What the deletes of a class leave to be answered for, by blocks. Only private contracts cite this.
use Rattle.std.specs.Prelude.{◌≡◌, ◌≤◌, ◌<◌, ℕ, true, List, Some, length, slice_get}
use Rattle.std.specs.List.{Contains}
use Rattle.mcv_blocks.specs.Blocks.{AreLeavesAt, IsBlockOf}
use Rattle.mcv_blocks.specs.Sets.{SetsValue}
use Rattle.mcv_blocks.specs.declared.classes.RouteClass.{RouteClass}
use Rattle.mcv_gaps.specs.Gaps.{WantedValue}
use Rattle.mcv_judge.specs.Reason.{BlockValue, LegValue}
use Rattle.mcv_route.specs.Eras.{AreNearEras, HasEra, IsEraOf}
use Rattle.mcv_route.specs.declared.eras.NearEras.{NearEras}
use Rattle.mcv_route.specs.Routes.{RoutesValue}
use Rattle.mcv_route.specs.Tree.{Tree}
use Rattle.mcv_symbolic.specs.JustifiedRoutes.{IsReadableAt}

-- the sets are of this tree and rest, in this era of the routes
pub record AreSetsIn (r : RoutesValue) (t : Tree) (rest : List ℕ) (era : ℕ) (s : SetsValue) : Type 0 where
  pub tree : s.tree ≡ t
  pub same : s.rest ≡ rest
  pub opened : HasEra r era → IsEraOf r era s.since

-- there are some for each era of the routes
abbrev pub HaveEachEra : RoutesValue → List SetsValue → Type 0
HaveEachEra r sets = (era : ℕ) → HasEra r era → era < length sets

-- they are those of this tree and rest, from era 0 on
abbrev pub AreSetsByEra : RoutesValue → Tree → (rest : List ℕ) → List SetsValue → Type 0
AreSetsByEra r t rest sets = (k : ℕ) (s : SetsValue) → slice_get sets k ≡ Some s → AreSetsIn r t rest k s

-- a leg from which a read can be answered at these sets
pub record IsReadAt (s : SetsValue) (leaf : LegValue) : Type 0 where
  pub leaves : List LegValue
  pub are : AreLeavesAt s.tree (IsReadableAt s.tree s.rest s.since) leaves
  pub listed : Contains leaves leaf

-- at the sets of one of these eras
pub record IsReadNear (sets : List SetsValue) (first end : ℕ) (leaf : LegValue) : Type 0 where
  pub era : ℕ
  pub low : first ≤ era
  pub high : era < end
  pub own : SetsValue
  pub there : slice_get sets era ≡ Some own
  pub read : IsReadAt own leaf

-- a block of the class at which a delete can be acknowledged
pub record IsAcknowledgedBlock (r : RoutesValue) (c : RouteClass) (b : BlockValue) : Type 0 where
  pub is : IsBlockOf r b
  pub route : b.spot.route ≡ c.route
  pub word : b.spot.class ≡ c.class.word
  pub can : b.can_be_acknowledged ≡ true

-- what the block has is there
pub record IsWantedFor (w : WantedValue) (b : BlockValue) : Type 0 where
  pub acknowledged : w.acknowledged ≡ b.acknowledged
  pub readable : (leaf : LegValue) → Contains b.readable leaf → Contains w.readable leaf

-- a leaf comes from such a block
pub record IsLeafOf (r : RoutesValue) (c : RouteClass) (w : WantedValue) (leaf : LegValue) : Type 0 where
  pub block : BlockValue
  pub is : IsAcknowledgedBlock r c block
  pub acknowledged : block.acknowledged ≡ w.acknowledged
  pub read : Contains block.readable leaf

-- what deletes of a class in an era leave: what its blocks have there, and no leaf but theirs
pub record IsWantedIn (r : RoutesValue) (c : RouteClass) (era : ℕ) (w : WantedValue) : Type 0 where
  pub all : (b : BlockValue) → IsAcknowledgedBlock r c b → b.spot.era ≡ era → IsWantedFor w b
  pub only : (leaf : LegValue) → Contains w.readable leaf → IsLeafOf r c w leaf

-- what those of all eras leave
pub record AreWantedOf (r : RoutesValue) (c : RouteClass) (ws : List WantedValue) : Type 0 where
  pub all : (b : BlockValue) → IsAcknowledgedBlock r c b → (w : WantedValue) × Contains ws w × IsWantedFor w b
  pub only : (w : WantedValue) → Contains ws w → (leaf : LegValue) → Contains w.readable leaf → IsLeafOf r c w leaf

-- those of each era, from era 0 on
abbrev pub AreWantedByEra : RoutesValue → RouteClass → List WantedValue → Type 0
AreWantedByEra r c ws = (k : ℕ) (w : WantedValue) → slice_get ws k ≡ Some w → IsWantedIn r c k w

-- of each era, from era 0 on, the eras that are near it
abbrev pub AreNearsOf : RoutesValue → List NearEras → Type 0
AreNearsOf r nears = (k : ℕ) (x : NearEras) → slice_get nears k ≡ Some x → AreNearEras r r.window k x.first x.end

-- there are sets for all of them
abbrev pub AreWithin : List SetsValue → List NearEras → Type 0
AreWithin sets nears = (k : ℕ) (x : NearEras) → slice_get nears k ≡ Some x → (k < length sets) × (x.first ≤ x.end) × (x.end ≤ length sets)
