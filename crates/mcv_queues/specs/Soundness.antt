-- What is true of queues at every moment.
use Rattle.std.specs.Prelude.{◌≡◌, ◌<◌, ℕ, Option, Some, None}
use Rattle.mcv_queues.specs.declared.leg.Leg.{Leg}
use Rattle.mcv_queues.specs.declared.rows.Link.{Link}
use Rattle.mcv_queues.specs.declared.roots.Group.{Group}
use Rattle.mcv_queues.specs.Flights.{AreFlying}
use Rattle.mcv_queues.specs.Forest.{IsForest}
use Rattle.mcv_queues.specs.Groups.{is_in}
use Rattle.mcv_queues.specs.Heap.{without}

-- the legs of each group form a heap at its root; so many legs are in flight to each server
pub record IsQueues {T : Type 0} (legs : ℕ → Option (Leg T)) (f : ℕ → Option Link) (roots : Group → Option ℕ) (flights : ℕ → ℕ) (known : ℕ) : Type 0 where
  pub trees : (g : Group) → IsForest (is_in legs g) f (roots g) None None
  pub flying : (s : ℕ) → ∥ AreFlying legs s (flights s) ∥₁
  pub range : (n : ℕ) (l : Leg T) → legs n ≡ Some l → l.server.0 < known

-- the legs of each group form a heap at its root
abbrev pub AreTrees : {T : Type 0} → (ℕ → Option (Leg T)) → (ℕ → Option Link) → (Group → Option ℕ) → Type 0
AreTrees legs f roots = (g : Group) → IsForest (is_in legs g) f (roots g) None None

-- the same of all legs but one, which hangs in no heap
abbrev pub AreTreesBut : {T : Type 0} → ℕ → (ℕ → Option (Leg T)) → (ℕ → Option Link) → (Group → Option ℕ) → Type 0
AreTreesBut x legs f roots = (g : Group) → IsForest (without (is_in legs g) x) f (roots g) None None

-- each leg's server is in the table
abbrev pub AreInRange : {T : Type 0} → (ℕ → Option (Leg T)) → ℕ → Type 0
AreInRange {T} legs known = (n : ℕ) (l : Leg T) → legs n ≡ Some l → l.server.0 < known
