use Rattle.std.proofs.Common.{subst}
use Rattle.mcv_symbolic.specs.CoveredRoutes.{AreCovered}
use Rattle.mcv_check.proofs.accepted.Accepted.routes.Goals as goal

pub returns-clause-covered : goal.returns-clause-covered
returns-clause-covered c = subst AreCovered c.self.view_is c.self.invariant
