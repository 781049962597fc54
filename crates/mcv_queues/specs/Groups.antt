-- Groups of legs of which the first one is asked for.
use Rattle.std.specs.Prelude.{◌⊎◌, ℕ, Bool, true, false, Option, Some, None, nat_eq}
use Rattle.mcv_queues.specs.declared.leg.Leg.{Leg}
use Rattle.mcv_queues.specs.declared.leg.State.{State}
use Rattle.mcv_queues.specs.declared.leg.State.TheVariants.{Waiting, Sent, Held, Refused, InSpool, InReplay}
use Rattle.mcv_queues.specs.declared.roots.Group.{Group}
use Rattle.mcv_queues.specs.declared.roots.Group.TheVariants.{WaitingFor, SpooledFor, HeldLegs, RefusedLegs, LegsInReplay}
use Rattle.mcv_queues.specs.Numbers.{IsLeast}

-- the group of a leg of a server by its state
abbrev pub group_at : ℕ → State → Option Group
group_at s Waiting = Some (WaitingFor s)
group_at s Sent = None
group_at s Held = Some HeldLegs
group_at s Refused = Some RefusedLegs
group_at s InSpool = Some (SpooledFor s)
group_at s InReplay = Some LegsInReplay

abbrev pub group_of : {T : Type 0} → Option (Leg T) → Option Group
group_of None = None
group_of (Some l) = group_at l.server.0 l.state

abbrev pub same_group : Group → Group → Bool
same_group (WaitingFor s) (WaitingFor t) = nat_eq s t
same_group (SpooledFor s) (SpooledFor t) = nat_eq s t
same_group HeldLegs HeldLegs = true
same_group RefusedLegs RefusedLegs = true
same_group LegsInReplay LegsInReplay = true
same_group g h = false

abbrev pub is_group : Option Group → Group → Bool
is_group None g = false
is_group (Some h) g = same_group h g

-- the leg at a number is in a group
abbrev pub is_in : {T : Type 0} → (ℕ → Option (Leg T)) → Group → ℕ → Bool
is_in legs g n = is_group (group_of (legs n)) g

-- the first held leg of which its call hasn't heard, or where there is none the first one of which it has
abbrev pub IsFirstHeld : {T : Type 0} → (ℕ → Option (Leg T)) → ℕ → Type 0
IsFirstHeld legs n = IsLeast (is_in legs HeldLegs) (Some n) ⊎ (IsLeast (is_in legs HeldLegs) None × IsLeast (is_in legs RefusedLegs) (Some n))
