-- Which finding is shown of a gap (own).
use Rattle.std.specs.Prelude.{◌≡◌, ◌<◌, ℕ, true, List, ◌++◌, Option, Some, slice_get}
use Rattle.std.specs.List.{Contains}
use Rattle.mcv_base.specs.Operation.{op_number, shows_value}
use Rattle.mcv_base.specs.declared.operation.Op.{Op}
use Rattle.mcv_base.specs.declared.operation.Op.TheVariants.{Delete}
use Rattle.mcv_base.specs.declared.reply.Outcome.TheVariants.{Good}
use Rattle.mcv_route.specs.Eras.{IsEraOf}
use Rattle.mcv_classes.specs.Class.{IsMember}
use Rattle.mcv_classes.specs.Words.{class_words}
use Rattle.mcv_route.specs.Aliases.{first_alias}
use Rattle.mcv_route.specs.Outcomes.{Choice}
use Rattle.mcv_route.specs.Places.{pool_at_position}
use Rattle.mcv_route.specs.Routes.{RouteEntry, RoutesValue}
use Rattle.mcv_route.specs.Situation.{asked}
use Rattle.mcv_route.specs.Tree.{Pool}
use Rattle.mcv_rules.specs.Plans.{plan}
use Rattle.mcv_rules.specs.declared.plan.PlannedLeg.{PlannedLeg}
use Rattle.mcv_base.specs.Key.{IsRest}
use Rattle.mcv_symbolic.specs.Sets.{AreLegsAt, CanHitAt, IsAcknowledged}
use Rattle.mcv_witness.specs.Finding.{FindingValue}
use Rattle.mcv_make.specs.FreeIndexes.{free_indexes}
use Rattle.mcv_symbolic.specs.ShownAnswers.{answers, leaf_hit}

-- the key is the prefix and the member of the class
pub record IsShownWith (r : RoutesValue) (prefix : List ℕ) (f : FindingValue) : Type 0 where
  pub entry : RouteEntry
  pub rest : List ℕ
  pub since : Option ℕ
  pub read : Option ℕ
  pub pool : Pool
  pub legs : List PlannedLeg
  pub numbered : slice_get r.entries f.place.spot.route ≡ Some entry
  pub listed : Contains (class_words entry.tree) f.place.spot.class
  pub member : IsMember (class_words entry.tree) f.place.spot.class (Some rest)
  pub rest_is : IsRest rest
  pub opened : IsEraOf r f.place.spot.era since
  pub read_opened : IsEraOf r f.place.spot.get_era read
  pub window : f.window ≡ r.window
  pub key : f.key ≡ prefix ++ rest
  pub pool_there : pool_at_position entry.tree f.place.leaf ≡ Some pool
  -- the least indexes at which no leg that each acknowledged delete has sent has the server
  pub are : (c : Choice) → AreLegsAt entry.tree (IsAcknowledged entry.tree rest since c) legs
  pub choice : f.choice ≡ free_indexes legs f.server pool.symbol f.at 0 r.symbols
  -- the first of get, gets, incr and decr that can be answered from the leaf
  pub reading : shows_value f.op ≡ true
  pub first : (op : Op) → shows_value op ≡ true → op_number op < op_number f.op → (c : Choice) → CanHitAt entry.tree (asked op rest read) c f.place.leaf → ⊥
  -- the leaf's hit is the answer
  pub gets : leaf_hit f.place.leaf (plan entry.tree (asked f.op rest read)) ≡ Some f.gets
  -- each leg that the reply needs has deleted
  pub deletes : f.deletes ≡ answers Good (plan entry.tree (asked Delete rest since))

-- the prefix is the first one that selects the route
abbrev pub IsShown : RoutesValue → FindingValue → Type 0
IsShown r f = (prefix : List ℕ) × (first_alias r f.place.spot.route ≡ Some prefix) × IsShownWith r prefix f
