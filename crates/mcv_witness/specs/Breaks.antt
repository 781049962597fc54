-- When a finding breaks coverage: a get, gets, incr or decr can be answered by a server to which an acknowledged delete of the same key was never sent (own).
use Rattle.std.specs.Prelude.{◌≡◌, ◌≤◌, ℕ, true, List, Option, Some, map, option_map, slice_get, slice_index}
use Rattle.std.specs.List.{AllPairs}
use Rattle.mcv_base.specs.declared.operation.Op.TheVariants.{Delete}
use Rattle.mcv_base.specs.Key.{IsCut, IsRest, is_key_word}
use Rattle.mcv_base.specs.Operation.{shows_value}
use Rattle.mcv_route.specs.Eras.{IsEraOf, IsNear}
use Rattle.mcv_classes.specs.Class.{IsBefore, IsClassWord}
use Rattle.mcv_classes.specs.Words.{class_words}
use Rattle.mcv_route.specs.Outcomes.{Choice, History, IsChoice, outcomes}
use Rattle.mcv_route.specs.Places.{pool_at_position, route_of_prefix}
use Rattle.mcv_route.specs.Routes.{RoutesValue}
use Rattle.mcv_route.specs.Situation.{asked}
use Rattle.mcv_route.specs.Tree.{Pool, Tree}
use Rattle.mcv_route.specs.Verdict.{IsDone, IsHit, IsReachable, IsSent}
use Rattle.mcv_symbolic.specs.CoveredRoutes.{AreCovered, sizes_of}
use Rattle.mcv_witness.specs.Finding.{FindingValue}

-- the finding's route has this tree, its key has this rest, of the route and the class named, and these breaks opened the eras of its delete and of its get, which are near
pub record IsAtPlace (r : RoutesValue) (f : FindingValue) (t : Tree) (rest : List ℕ) (since get_since : Option ℕ) : Type 0 where
  pub prefix : List ℕ
  pub route : option_map (λ e. e.tree) (slice_get r.entries f.place.spot.route) ≡ Some t
  pub word : is_key_word f.key ≡ true
  pub cut : IsCut f.key prefix rest
  pub rest_is : IsRest rest
  pub selects : route_of_prefix prefix r.entries ≡ Some f.place.spot.route
  pub class : IsClassWord (class_words t) rest f.place.spot.class
  pub era : IsEraOf r f.place.spot.era since
  pub get_era : IsEraOf r f.place.spot.get_era get_since
  pub near : IsNear r f.window since get_since

-- the index that the finding gives each symbol
abbrev pub chosen : FindingValue → Choice
chosen f = slice_index f.choice

-- a pool is at the leaf, and has under the choice the index and the server named
pub record IsLeafOf (f : FindingValue) (t : Tree) : Type 0 where
  pub pool : Pool
  pub pool_there : pool_at_position t f.place.leaf ≡ Some pool
  pub index : chosen f pool.symbol ≡ f.at
  pub server : slice_get pool.servers f.at ≡ Some f.server

-- outcomes come in the order of their positions, one for each
abbrev pub AreRising : History → Type 0
AreRising es = AllPairs IsBefore (map (λ e. e.0) es)

-- the outcomes of the read can come about, and a hit of the leaf is among its replies
pub record IsRead (f : FindingValue) (t : Tree) (rest : List ℕ) (since : Option ℕ) : Type 0 where
  pub reading : shows_value f.op ≡ true
  pub rising : AreRising f.gets
  pub reachable : IsReachable t (asked f.op rest since) (chosen f) (outcomes f.gets)
  pub hit : IsHit t (asked f.op rest since) (outcomes f.gets) f.place.leaf

-- the outcomes of the delete can come about, it has a reply that isn't an error, and by then it wasn't sent to the server
pub record IsMissed (f : FindingValue) (t : Tree) (rest : List ℕ) (since : Option ℕ) : Type 0 where
  pub rising : AreRising f.deletes
  pub reachable : IsReachable t (asked Delete rest since) (chosen f) (outcomes f.deletes)
  pub done : IsDone t rest since (outcomes f.deletes)
  pub unsent : IsSent t rest since (chosen f) (outcomes f.deletes) f.server → ⊥

-- the finding breaks coverage
pub record BreaksCoverage (r : RoutesValue) (f : FindingValue) : Type 0 where
  pub tree : Tree
  pub rest : List ℕ
  pub since : Option ℕ
  pub get_since : Option ℕ
  pub placed : IsAtPlace r f tree rest since get_since
  -- each symbol has an index below its number of servers
  pub choice : IsChoice (sizes_of r) (chosen f)
  pub leaf : IsLeafOf f tree
  pub read : IsRead f tree rest get_since
  pub missed : IsMissed f tree rest since

-- routes with such a finding aren't covered, if they are looked at within its window or a longer one
abbrev pub FindingsAreLosses : Type 0
FindingsAreLosses = (r : RoutesValue) (f : FindingValue) → f.window ≤ r.window → BreaksCoverage r f → AreCovered r → ⊥
