-- Legs by number.
use Rattle.std.specs.Prelude.{ℕ, Bool, Option, Some, nat_eq, option_map}
use Rattle.std.specs.HashMap as hash
use Rattle.mcv_queues.specs.Legs.{waits_for}
use Rattle.mcv_queues.specs.declared.leg.Leg.{Leg}
use Rattle.mcv_queues.specs.declared.rows.Link.{Link}
use Rattle.mcv_queues.specs.declared.rows.Row.{Row}
use Rattle.mcv_queues.specs.declared.rows.Rows.{Rows}
use Rattle.mcv_queues.specs.declared.rows.Seen.{Seen}

abbrev pub at : {T : Type 0} → Rows T → ℕ → Option (Row T)
at t = hash.get nat_eq t.rows

-- how many more legs there is room for
abbrev pub room : {T : Type 0} → Rows T → ℕ
room t = hash.spare t.rows

abbrev pub leg_of : {T : Type 0} → Row T → Leg T
leg_of r = r.leg

abbrev pub link_of : {T : Type 0} → Row T → Link
link_of r = r.link

abbrev pub content_of : {T : Type 0} → Row T → T
content_of r = r.leg.content

abbrev pub seen_of : {T : Type 0} → Row T → Seen
seen_of r = record { server = r.leg.server.0; state = r.leg.state; link = r.link }

abbrev pub legs : {T : Type 0} → Rows T → ℕ → Option (Leg T)
legs t n = option_map leg_of (at t n)

abbrev pub links : {T : Type 0} → Rows T → ℕ → Option Link
links t n = option_map link_of (at t n)

-- the leg of the row waits for this server
abbrev pub row_waits_for : {T : Type 0} → ℕ → Row T → Bool
row_waits_for s r = waits_for s (Some r.leg)
