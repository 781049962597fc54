-- The blocks of a configuration: what a certificate is judged against, said by the sets of positions (own).
use Rattle.std.specs.Prelude.{◌≡◌, ◌↔◌, ℕ, false, List, Option, Some, map, slice_get}
use Rattle.std.specs.List.{All, AllPairs, Contains}
use Rattle.std.specs.declared.cmp.Ordering.TheVariants.{Less}
use Rattle.mcv_route.specs.Eras.{IsEraOf, IsNear}
use Rattle.mcv_route.specs.Outcomes.{Choice}
use Rattle.mcv_route.specs.Places.{pool_at_position}
use Rattle.mcv_route.specs.Routes.{RouteEntry, RoutesValue}
use Rattle.mcv_route.specs.Tree.{Pool, Tree}
use Rattle.mcv_classes.specs.Class.{IsMember}
use Rattle.mcv_classes.specs.Words.{class_words}
use Rattle.mcv_symbolic.specs.JustifiedRoutes.{IsNeverAcknowledged, IsReadableAt}
use Rattle.mcv_symbolic.specs.Sets.{IsAcknowledged}
use Rattle.mcv_judge.specs.Faults.{AreLegsRising, IsFaultless, IsFirstFault}
use Rattle.mcv_judge.specs.Reason.{BlockValue, LegValue}
use Rattle.mcv_judge.specs.declared.fault.PairFault.{PairFault}
use Rattle.mcv_cert.specs.Pair.{CertificateValue, PairValue, SpotValue, spot_cmp}

-- the pool of a leaf
abbrev pub pool_for : LegValue → Pool
pool_for l = record { symbol = l.symbol; servers = l.servers }

abbrev pub positions_of : List LegValue → List (List ℕ)
positions_of leaves = map (λ l. l.position) leaves

-- the leaves are those at the positions with the property, in the order of their positions, each with the symbol and the servers of the pool that is there
pub record AreLeavesAt (t : Tree) (P : List ℕ → Type 0) (leaves : List LegValue) : Type 0 where
  pub pools : All (λ l. pool_at_position t l.position ≡ Some (pool_for l)) leaves
  pub rising : AreLegsRising leaves
  pub only : All P (positions_of leaves)
  pub all : (p : List ℕ) → P p → Contains (positions_of leaves) p

-- to the position each delete that has a reply has been sent, under every choice
abbrev pub IsAcknowledgedAt : Tree → List ℕ → Option ℕ → List ℕ → Type 0
IsAcknowledgedAt t rest since p = (c : Choice) → IsAcknowledged t rest since c p

-- the block has what the route has at a rest, with a delete in the one era and a get in the other
pub record IsBlockAt (t : Tree) (rest : List ℕ) (since read : Option ℕ) (b : BlockValue) : Type 0 where
  pub readable : AreLeavesAt t (IsReadableAt t rest read) b.readable
  pub acknowledged : AreLeavesAt t (IsAcknowledgedAt t rest since) b.acknowledged
  pub never : (b.can_be_acknowledged ≡ false) ↔ IsNeverAcknowledged t rest since

-- the routes have the spot's route, that has the spot's class, and the spot's eras, which are near; and then the tree, the class's member and the breaks that opened the eras
pub record IsSpotOf (r : RoutesValue) (s : SpotValue) (t : Tree) (member : List ℕ) (since read : Option ℕ) : Type 0 where
  pub entry : RouteEntry
  pub numbered : slice_get r.entries s.route ≡ Some entry
  pub has_tree : entry.tree ≡ t
  pub listed : Contains (class_words t) s.class
  pub has_member : IsMember (class_words t) s.class (Some member)
  pub opened : IsEraOf r s.era since
  pub read_opened : IsEraOf r s.get_era read
  pub near : IsNear r r.window since read

-- the block is that of its spot
pub record IsBlockOf (r : RoutesValue) (b : BlockValue) : Type 0 where
  pub tree : Tree
  pub member : List ℕ
  pub since : Option ℕ
  pub read : Option ℕ
  pub spot : IsSpotOf r b.spot tree member since read
  pub has : IsBlockAt tree member since read b

-- one of the blocks is at the spot
abbrev pub HasBlockFor : List BlockValue → SpotValue → Type 0
HasBlockFor blocks s = (b : BlockValue) × Contains blocks b × (b.spot ≡ s)

-- a block for each spot whose class has a member, in the order of the spots, each once
pub record AreBlocksOf (r : RoutesValue) (blocks : List BlockValue) : Type 0 where
  pub rising : AllPairs (λ b c. spot_cmp b.spot c.spot ≡ Less) blocks
  pub only : All (IsBlockOf r) blocks
  pub all : (s : SpotValue) (t : Tree) (member : List ℕ) (since read : Option ℕ) → IsSpotOf r s t member since read → HasBlockFor blocks s

-- pairs have no fault against the blocks of the routes
abbrev pub AreJustifiedPairs : RoutesValue → List PairValue → Type 0
AreJustifiedPairs r pairs = (blocks : List BlockValue) × AreBlocksOf r blocks × IsFaultless pairs blocks

-- a certificate is justified: it is for the window of the routes, and has no fault
abbrev pub IsJustifiedBy : RoutesValue → CertificateValue → Type 0
IsJustifiedBy r c = (c.window ≡ r.window) × AreJustifiedPairs r c.pairs

-- the fault is the first of a certificate with these pairs
abbrev pub IsFirstFaultOf : RoutesValue → List PairValue → PairFault → Type 0
IsFirstFaultOf r pairs f = (blocks : List BlockValue) × AreBlocksOf r blocks × IsFirstFault pairs blocks f
