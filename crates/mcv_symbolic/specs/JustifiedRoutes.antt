-- When a route is covered at a rest, of a delete in one era and a get in another, said by the sets alone (own).
use Rattle.std.specs.Prelude.{◌≡◌, ◌≢◌, ◌⊎◌, ◌↔◌, ◌<◌, ℕ, true, List, Option, Some, length, slice_index}
use Rattle.mcv_base.specs.Operation.{shows_value}
use Rattle.mcv_base.specs.declared.operation.Op.{Op}
use Rattle.mcv_route.specs.Outcomes.{Choice, IsChoice}
use Rattle.mcv_route.specs.Places.{pool_at_position}
use Rattle.mcv_route.specs.Situation.{asked}
use Rattle.mcv_route.specs.Tree.{Pool, Tree}
use Rattle.mcv_route.specs.WellFormedTrees.{IsWellFormed}
use Rattle.mcv_symbolic.specs.Sets.{CanHitAt, CanBeAcknowledged, IsAcknowledged}

-- an operation whose answer shows the value can be answered from the position
abbrev pub IsReadableAt : Tree → List ℕ → Option ℕ → List ℕ → Type 0
IsReadableAt t rest since p = (op : Op) × (shows_value op ≡ true) × (c : Choice) × CanHitAt t (asked op rest since) c p

-- no delete can be acknowledged
abbrev pub IsNeverAcknowledged : Tree → List ℕ → Option ℕ → Type 0
IsNeverAcknowledged t rest since = (c : Choice) → CanBeAcknowledged t rest since c → ⊥

-- the pool is at a position to which each delete that has a reply has been sent
abbrev pub IsAcknowledgedPool : Tree → List ℕ → Option ℕ → Pool → Type 0
IsAcknowledgedPool t rest since m = (p : List ℕ) × (pool_at_position t p ≡ Some m) × ((c : Choice) → IsAcknowledged t rest since c p)

-- some symbol answers for the pool at the index: at each of the symbol's indexes (at this one alone, if it is the pool's own) an acknowledged pool of the symbol has the pool's server
abbrev pub IsAnswered : List ℕ → Tree → List ℕ → Option ℕ → Pool → ℕ → Type 0
IsAnswered sizes t rest since leaf i =
    (s : ℕ) × (s < length sizes)
    × ((j : ℕ) → j < slice_index sizes s → (s ≡ leaf.symbol → j ≡ i) → (m : Pool) × IsAcknowledgedPool t rest since m × (m.symbol ≡ s) × (slice_index m.servers j ≡ slice_index leaf.servers i))

-- under every choice that gives the pool this index, an acknowledged pool has the pool's server at its own index
abbrev pub IsAlwaysAnswered : List ℕ → Tree → List ℕ → Option ℕ → Pool → ℕ → Type 0
IsAlwaysAnswered sizes t rest since leaf i =
    (c : Choice) → IsChoice sizes c → c leaf.symbol ≡ i → (m : Pool) × IsAcknowledgedPool t rest since m × (slice_index m.servers (c m.symbol) ≡ slice_index leaf.servers i)

-- under some choice that gives the pool this index, no acknowledged pool has the pool's server at its own index
abbrev pub IsEverMissed : List ℕ → Tree → List ℕ → Option ℕ → Pool → ℕ → Type 0
IsEverMissed sizes t rest since leaf i =
    (c : Choice) × IsChoice sizes c × (c leaf.symbol ≡ i) × ((m : Pool) → IsAcknowledgedPool t rest since m → slice_index m.servers (c m.symbol) ≢ slice_index leaf.servers i)

-- each symbol by itself has an index (this one, if it is the pool's own) at which no acknowledged pool of the symbol has the pool's server
abbrev pub IsMissedByEach : List ℕ → Tree → List ℕ → Option ℕ → Pool → ℕ → Type 0
IsMissedByEach sizes t rest since leaf i =
    (s : ℕ) → s < length sizes
    → (j : ℕ) × (j < slice_index sizes s) × (s ≡ leaf.symbol → j ≡ i) × ((m : Pool) → IsAcknowledgedPool t rest since m → m.symbol ≡ s → slice_index m.servers j ≢ slice_index leaf.servers i)

-- one choice answers, or misses, as each symbol does by itself
abbrev pub SymbolsAreIndependent : Type 0
SymbolsAreIndependent = (sizes : List ℕ) (t : Tree) (rest : List ℕ) (since : Option ℕ) (leaf : Pool) (i : ℕ) → IsWellFormed sizes t → leaf.symbol < length sizes → i < slice_index sizes leaf.symbol →
    (IsAlwaysAnswered sizes t rest since leaf i ↔ IsAnswered sizes t rest since leaf i) × (IsEverMissed sizes t rest since leaf i ↔ IsMissedByEach sizes t rest since leaf i)

-- in the one era no delete can be acknowledged, or every pool that can be read in the other is answered for at every index
abbrev pub IsJustified : List ℕ → Tree → List ℕ → (since read : Option ℕ) → Type 0
IsJustified sizes t rest since read =
    IsNeverAcknowledged t rest since
    ⊎ ((p : List ℕ) (leaf : Pool) (i : ℕ) → IsReadableAt t rest read p → pool_at_position t p ≡ Some leaf → i < slice_index sizes leaf.symbol → IsAnswered sizes t rest since leaf i)
