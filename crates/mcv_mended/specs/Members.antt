-- What is compared for a member of a class in an era. Only private contracts cite this.
use Rattle.std.specs.Prelude.{◌≡◌, ◌≢◌, ℕ, List, Option, Some, option_map, slice_get}
use Rattle.std.specs.List.{All, Contains}
use Rattle.mcv_base.specs.declared.operation.Op.{Op}
use Rattle.mcv_base.specs.declared.operation.Op.TheVariants.{Delete}
use Rattle.mcv_blocks.specs.declared.classes.RouteClass.{RouteClass}
use Rattle.mcv_judge.specs.Reason.{LegValue}
use Rattle.mcv_route.specs.Eras.{IsEraOf}
use Rattle.mcv_route.specs.Routes.{RoutesValue}
use Rattle.mcv_route.specs.Situation.{asked}
use Rattle.mcv_route.specs.Tree.{Tree}
use Rattle.mcv_rules.specs.Plans.{plan}
use Rattle.mcv_alike.specs.Plans.{AreOnePlan, IsWidened}

-- asked so, the second tree's plan does what the first one's does
abbrev pub AreAskedAlike : RoutesValue → RoutesValue → Tree → Tree → (rest : List ℕ) → Option ℕ → Op → Type 0
AreAskedAlike r n t u rest since op = AreOnePlan r n (plan t (asked op rest since)) (plan u (asked op rest since))

-- asked for a delete, it sends these legs too
abbrev pub AreDeletesWidened : RoutesValue → RoutesValue → Tree → Tree → (rest : List ℕ) → Option ℕ → List LegValue → Type 0
AreDeletesWidened r n t u rest since legs = IsWidened r n legs (plan t (asked Delete rest since)) (plan u (asked Delete rest since))

-- what is asked of an operation: a delete may send more
pub record IsAskedWell (r n : RoutesValue) (t u : Tree) (rest : List ℕ) (since : Option ℕ) (legs : List LegValue) (op : Op) : Type 0 where
  pub alike : op ≢ Delete → AreAskedAlike r n t u rest since op
  pub deletes : op ≡ Delete → AreDeletesWidened r n t u rest since legs

-- the same for all operations, in each era
abbrev pub IsMemberMended : RoutesValue → RoutesValue → Tree → Tree → (rest : List ℕ) → List LegValue → Type 0
IsMemberMended r n t u rest legs = (era : ℕ) (since : Option ℕ) → IsEraOf r era since → (op : Op) → IsAskedWell r n t u rest since legs op
