use Rattle.std.proofs.Common.{◌≡◌, ◌-◌, ◌<◌, Some, arith, ap, get_or, ◌∙◌}
use Rattle.mcv_base.specs.declared.request.Moment.{Moment}
use Rattle.mcv_route.specs.Eras.{breaks_of}
use Rattle.mcv_route.specs.RoutesView.{routes_view}
use Rattle.mcv_route.proofs.Breaks.{no-since, last-since}
use Rattle.mcv_route.proofs.routes.Routes.since.Goals as goal

pub returns-then-number-eq0 : goal.returns-then-number-eq0
returns-then-number-eq0 c =
    let found = c.passed_breaks-number in
    let table = rw (← c.as_slice-table.ensures.value) at c.self.invariant.table in
    rw (← c.self.view_is) (no-since (breaks_of (routes_view c.self.inside)) c.as_slice-table.result.now c.args.moment.0 found.result table found.ensures.bound found.ensures.first found.ensures.rest c.if-number-eq0.true)

pub returns : goal.returns
returns c =
    let found = c.passed_breaks-number in
    let some : 0 < found.result = omega (arith, c.if-number-eq0.false) in
    let table = rw (← c.as_slice-table.ensures.value) at c.self.invariant.table in
    let last = last-since (breaks_of (routes_view c.self.inside)) c.as_slice-table.result.now c.args.moment.0 found.result table found.ensures.bound found.ensures.first found.ensures.rest c.index.result.now some in
    let at : c.index.result.now ≡ get_or c.as_slice-table.result.now (found.result - 1) c.index.result.now = rw c.as_slice-table.ensures.value c.index.ensures in
    rw (← c.self.view_is) (ap (λ (m : Moment). Some m.0) at ∙ last)
