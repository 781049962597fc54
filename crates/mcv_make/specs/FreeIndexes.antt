-- Which indexes a finding gives the symbols (own).
use Rattle.std.specs.Prelude.{ℕ, zero, suc, Bool, List, [], ◌∷◌, Some, if◌then◌else◌, nat_eq}
use Rattle.std.specs.List.{list_any}
use Rattle.std.specs.Ordering.{nat_cmp, ordering_then}
use Rattle.std.specs.declared.cmp.Ordering.{Ordering}
use Rattle.mcv_blocks.specs.MergedLegs.{leaf_of}
use Rattle.mcv_judge.specs.Reason.{has_server}
use Rattle.mcv_pools.specs.Symbol.{SymbolValue}
use Rattle.mcv_rules.specs.declared.plan.PlannedLeg.{PlannedLeg}

-- the leg is of the symbol, and has the server at the index
abbrev pub takes : (server symbol index : ℕ) → PlannedLeg → Bool
takes x s j l = has_server s (Some x) j (leaf_of l)

-- one of the legs does
abbrev pub is_taken : List PlannedLeg → (server symbol index : ℕ) → Bool
is_taken legs x s j = list_any (takes x s j) legs

-- the least of n indexes from j on that isn't taken, and 0 where all are
abbrev pub least_free : (ℕ → Bool) → ℕ → ℕ → ℕ
least_free taken j zero = 0
least_free taken j (suc n) = if taken j then least_free taken (suc j) n else j

-- of each symbol the least index at which no leg of it has the server; the symbol `own` has the index `at`
abbrev pub free_index : List PlannedLeg → (server own at symbol n : ℕ) → ℕ
free_index legs x own at s n = if nat_eq s own then at else least_free (is_taken legs x s) 0 n

-- those of the symbols from number k on
abbrev pub free_indexes : List PlannedLeg → (server own at k : ℕ) → List SymbolValue → List ℕ
free_indexes legs x own at k [] = []
free_indexes legs x own at k (s ∷ symbols) = free_index legs x own at k s.n ∷ free_indexes legs x own at (suc k) symbols

-- ---- how the code keeps them. Nothing but private contracts cites this

-- a symbol, and an index of it
abbrev pub Slot : Type 0
Slot = ℕ × ℕ

abbrev pub slot_cmp : Slot → Slot → Ordering
slot_cmp j k = ordering_then (nat_cmp j.0 k.0) (nat_cmp j.1 k.1)
