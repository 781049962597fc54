use Rattle.mcv_route.proofs.routes.Routes.first_alias.Goals as goal

pub returns-clause-selected : goal.returns-clause-selected
returns-clause-selected c = rw (← c.self.view_is) c.self.invariant.selected
