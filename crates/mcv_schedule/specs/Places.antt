-- Where a connection is among those of all hubs (own).
use Rattle.std.specs.Prelude.{◌≡◌, ◌+◌, ◌*◌, ◌<◌, ℕ}
use Rattle.mcv_schedule.specs.declared.way.Way.{Way}

-- it is at this place: they stand hub after hub, of each its servers in their order
pub record IsPlace (servers : ℕ) (way : Way) (place : ℕ) : Type 0 where
  pub server_is : way.server.0 < servers
  pub is : place ≡ way.hub * servers + way.server.0
