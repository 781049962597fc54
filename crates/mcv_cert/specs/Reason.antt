-- Why a delete reaches a leaf's server (own).
use Rattle.std.specs.Prelude.{ℕ, Bool, true, false, List, [], ◌∷◌}
use Rattle.mcv_cert.specs.declared.pair.Reason.{Reason}
use Rattle.mcv_cert.specs.declared.pair.Reason.TheVariants as reasons

-- why each delete that is acknowledged was sent to a leaf's server. Legs are named by their positions
pub data ReasonValue : Type 0 where
  -- none can be acknowledged
  never : ReasonValue
  -- the leg has the leaf's symbol and servers
  twin : (leg : List ℕ) → ReasonValue
  -- the leg has the leaf's symbol, and at the index its server
  same : (index : ℕ) → (leg : List ℕ) → ReasonValue
  -- the legs have one symbol and are as many as it has indexes, and each has, at its own index, the server that the leaf has at this one
  all : (index : ℕ) → (legs : List (List ℕ)) → ReasonValue

-- what the code's value means
abbrev pub reason_of : Reason → ReasonValue
reason_of reasons.Never = never
reason_of (reasons.Twin leg) = twin leg
reason_of (reasons.Same index leg) = same index leg
reason_of (reasons.All index legs) = all index legs.items

-- a reason that speaks of all indexes is at 0
abbrev pub index_of : ReasonValue → ℕ
index_of never = 0
index_of (twin leg) = 0
index_of (same index leg) = index
index_of (all index legs) = index

-- `all` names a leg or more
abbrev pub names_legs : ReasonValue → Bool
names_legs never = true
names_legs (twin leg) = true
names_legs (same index leg) = true
names_legs (all index []) = false
names_legs (all index (leg ∷ legs)) = true
