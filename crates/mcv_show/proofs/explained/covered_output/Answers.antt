use Rattle.std.proofs.Common.{subst}
use Rattle.mcv_route.specs.Eras.{IsBreakTable, breaks_of}
use Rattle.mcv_route.specs.Routes.{RoutesValue}
use Rattle.mcv_show.proofs.explained.covered_output.Goals as goal

pub returns-clause-text : goal.returns-clause-text
returns-clause-text c =
    let said = c.in_ok-text.ensures in
    (said.0, subst (λ (r : RoutesValue). IsBreakTable (breaks_of r) said.0) c.routes.ensures.value said.1, said.2)
