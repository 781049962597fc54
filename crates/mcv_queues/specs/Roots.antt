-- The roots of the groups, and how many legs are in flight.
use Rattle.std.specs.Prelude.{◌≡◌, ℕ, Bool, true, Option, None, length, get_or, nat_lt, cond}
use Rattle.mcv_queues.specs.Groups.{same_group}
use Rattle.mcv_queues.specs.declared.roots.Group.{Group}
use Rattle.mcv_queues.specs.declared.roots.Group.TheVariants.{WaitingFor, SpooledFor, HeldLegs, RefusedLegs, LegsInReplay}
use Rattle.mcv_queues.specs.declared.roots.Server.{Server}
use Rattle.mcv_queues.specs.declared.roots.Roots.{Roots}

-- a server without legs
abbrev pub idle : Server
idle = record { waiting = None; spooled = None; flying = 0 }

abbrev pub server_at : Roots → ℕ → Server
server_at r s = get_or r.servers.items s idle

-- the first leg of each group
abbrev pub root_of : Roots → Group → Option ℕ
root_of r (WaitingFor s) = (server_at r s).waiting
root_of r (SpooledFor s) = (server_at r s).spooled
root_of r HeldLegs = r.held
root_of r RefusedLegs = r.refused
root_of r LegsInReplay = r.in_replay

-- how many legs are in flight to each server
abbrev pub flights : Roots → ℕ → ℕ
flights r s = (server_at r s).flying

-- how many servers are in the table
abbrev pub known : Roots → ℕ
known r = length r.servers.items

-- the server of the group is in the table
abbrev pub is_known : ℕ → Group → Bool
is_known n (WaitingFor s) = nat_lt s n
is_known n (SpooledFor s) = nat_lt s n
is_known n HeldLegs = true
is_known n RefusedLegs = true
is_known n LegsInReplay = true

abbrev pub IsKnown : Roots → Group → Type 0
IsKnown r g = is_known (known r) g ≡ true

-- the first legs, but for one group's
abbrev pub put_root : (Group → Option ℕ) → Group → Option ℕ → Group → Option ℕ
put_root roots g root h = cond (same_group g h) root (roots h)
