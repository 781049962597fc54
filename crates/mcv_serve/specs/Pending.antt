-- What a spool hands to the hub at the start (own).
use Rattle.std.specs.Prelude.{ℕ, ◌+◌, Option, Some, None, List, [], ◌∷◌, ◌++◌}
use Rattle.mcv_spool.specs.declared.record.SpoolRecord.{SpoolRecord}

-- a record that is pending, with the number of its slot
abbrev pub entry : ℕ → Option SpoolRecord → List (ℕ × SpoolRecord)
entry k None = []
entry k (Some r) = (k, r) ∷ []

-- the records that are pending, with the numbers of their slots, the first of which is k
abbrev pub numbered : ℕ → List (Option SpoolRecord) → List (ℕ × SpoolRecord)
numbered k [] = []
numbered k (o ∷ all) = entry k o ++ numbered (k + 1) all
