-- What the plans of two trees say of what the trees do.
use Rattle.std.specs.Prelude.{List}
use Rattle.mcv_judge.specs.Reason.{LegValue}
use Rattle.mcv_route.specs.Routes.{RoutesValue}
use Rattle.mcv_route.specs.Situation.{Situation}
use Rattle.mcv_route.specs.Tree.{Tree}
use Rattle.mcv_rules.specs.Plans.{plan}
use Rattle.mcv_alike.specs.Alike.{DeletesMore, DoesAlike}
use Rattle.mcv_alike.specs.Plans.{AreOnePlan, IsWidened}

-- a tree whose plan does what another's does sends and replies what that does
abbrev pub AlikePlansDoAlike : Type 0
AlikePlansDoAlike = (r n : RoutesValue) (t u : Tree) (s : Situation) → AreOnePlan r n (plan t s) (plan u s) → DoesAlike r n t u s

-- one whose plan is another's with further legs sends these too, and is done only where that is
abbrev pub WidenedPlansDeleteMore : Type 0
WidenedPlansDeleteMore = (r n : RoutesValue) (t u : Tree) (s : Situation) (legs : List LegValue) → IsWidened r n legs (plan t s) (plan u s) → DeletesMore r n t u s legs
