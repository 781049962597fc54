-- What contracts see of queues.
use Rattle.std.specs.Prelude.{ℕ, Option, length}
use Rattle.mcv_queues.specs.Rows as rows
use Rattle.mcv_queues.specs.Roots as roots
use Rattle.mcv_queues.specs.declared.leg.Leg.{Leg}
use Rattle.mcv_queues.specs.declared.queues.Queues.{Queues}

-- the leg at each number
abbrev pub legs : {T : Type 0} → Queues T → ℕ → Option (Leg T)
legs q = rows.legs q.rows

-- how many more legs there is room for
abbrev pub room : {T : Type 0} → Queues T → ℕ
room q = rows.room q.rows

-- how many legs are in flight to each server, sent or in replay
abbrev pub in_flight : {T : Type 0} → Queues T → ℕ → ℕ
in_flight q = roots.flights q.roots

-- how many servers there are
abbrev pub servers : {T : Type 0} → Queues T → ℕ
servers q = length q.roots.servers.items
