use Rattle.mcv_hub.proofs.state.HubState.is_numbered.Goals as goal

pub returns : goal.returns
returns g c = rw (← c.self.view_is) c.self.invariant.1
