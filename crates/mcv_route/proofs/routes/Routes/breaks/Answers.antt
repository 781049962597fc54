use Rattle.mcv_route.proofs.routes.Routes.breaks.Goals as goal

pub returns : goal.returns
returns c = rw (← c.self.view_is, c.as_slice.ensures.value) c.self.invariant.table
