use Rattle.mcv_core.specs.View.{core_view}
use Rattle.mcv_hub.proofs.Histories.{history_keeps_deletes}
use Rattle.mcv_hub.proofs.state.HubState.deletes_are_kept.Goals as goal

pub returns : goal.returns
returns g c = rw (← c.self.view_is) (history_keeps_deletes (core_view c.self.inside.core.dispatcher) c.self.inside.history.entries.items c.self.invariant.0.0.covered c.self.invariant.0.0.legal)
