-- How many legs are in flight to a server, and how many wait for it.
use Rattle.std.specs.Prelude.{◌≡◌, ◌&&◌, ◌||◌, not, ℕ, Bool, true, false, List, [], ◌∷◌, Option, length, nat_eq}
use Rattle.mcv_queues.specs.declared.leg.Leg.{Leg}
use Rattle.mcv_queues.specs.Legs.{is_in_flight_to, waits_for}

abbrev pub lists : List ℕ → ℕ → Bool
lists [] n = false
lists (m ∷ ms) n = nat_eq m n || lists ms n

-- no number stands twice
abbrev pub are_apart : List ℕ → Bool
are_apart [] = true
are_apart (m ∷ ms) = not (lists ms m) && are_apart ms

-- so many numbers have what is counted
pub record AreCounted {X : Type 0} (counts : Option X → Bool) (at : ℕ → Option X) (count : ℕ) : Type 0 where
  pub numbers : List ℕ
  pub these : (n : ℕ) → lists numbers n ≡ counts (at n)
  pub apart : are_apart numbers ≡ true
  pub counted : length numbers ≡ count

-- so many legs say of themselves that they are in flight to the server
abbrev pub AreFlying : {T : Type 0} (legs : ℕ → Option (Leg T)) (s count : ℕ) → Type 0
AreFlying legs s count = AreCounted (is_in_flight_to s) legs count

-- so many legs wait for the server
abbrev pub AreWaiting : {T : Type 0} (legs : ℕ → Option (Leg T)) (s count : ℕ) → Type 0
AreWaiting legs s count = AreCounted (waits_for s) legs count
