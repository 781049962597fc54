use Rattle.mcv_route.specs.Eras.{breaks_of}
use Rattle.mcv_route.specs.RoutesView.{routes_view}
use Rattle.mcv_route.proofs.Breaks.{era-of}
use Rattle.mcv_route.proofs.routes.Routes.era_of.Goals as goal

pub passed_breaks-requires : goal.passed_breaks-requires
passed_breaks-requires c = rw c.as_slice.ensures.value c.self.invariant.table.rising

pub returns : goal.returns
returns c =
    let found = c.passed_breaks in
    rw (← c.self.view_is) (era-of (breaks_of (routes_view c.self.inside)) c.as_slice.result.now c.args.moment.0 found.result
    (rw (← c.as_slice.ensures.value) at c.self.invariant.table) found.ensures.bound found.ensures.first found.ensures.rest)
