use Rattle.mcv_hub.proofs.state.HubState.is_opened.Goals as goal

pub returns : goal.returns
returns g c = rw (← c.self.view_is) c.self.invariant.0.3
