-- What holds of what contracts see of a dispatcher, at every moment.
use Rattle.mcv_events.specs.Rows.{IsCore}
use Rattle.mcv_route.specs.Eras.{breaks_of, since_at}
use Rattle.std.proofs.Common.{◌≡◌}
use Rattle.mcv_core.specs.declared.dispatcher.Dispatcher.{Dispatcher}
use Rattle.mcv_core.specs.View.{core_view}

pub view_is_core : (d : Dispatcher) → IsCore (core_view d).routes (core_view d).rows
view_is_core d = d.sound.core

-- the era is that of the moment
pub view_has_era : (d : Dispatcher) → (core_view d).rows.since ≡ since_at (breaks_of (core_view d).routes) (core_view d).moment
view_has_era d = d.sound.era
