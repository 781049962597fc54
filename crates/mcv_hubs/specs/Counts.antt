-- What a session counts, hub by hub (own).
use Rattle.std.specs.Prelude.{ℕ, ◌+◌, zero, suc, List, [], ◌∷◌, Option, Some, None, Result, Ok, Err}

-- at one hub: the calls that were begun there and the replies that were taken, and how many parts of the hub's two books these shares are
pub record Tally : Type 0 where
  pub begun : ℕ
  pub taken : ℕ
  pub begun_parts : ℕ
  pub taken_parts : ℕ

abbrev pub tally : (begun taken begun_parts taken_parts : ℕ) → Tally
tally begun taken begun_parts taken_parts = record { begun = begun; taken = taken; begun_parts = begun_parts; taken_parts = taken_parts }

-- a new session's
abbrev pub unused : Tally
unused = tally 0 0 1 1

-- ---- what is counted

-- a call that began
abbrev pub begun_by : {T E : Type 0} → Result T E → Tally → Tally
begun_by (Ok call) t = tally (t.begun + 1) t.taken t.begun_parts t.taken_parts
begun_by (Err fault) t = t

-- a reply that was taken
abbrev pub taken_by : {T E : Type 0} → Result (Option T) E → Tally → Tally
taken_by (Ok (Some reply)) t = tally t.begun (t.taken + 1) t.begun_parts t.taken_parts
taken_by (Ok None) t = t
taken_by (Err fault) t = t

-- at the hub of this number alone; nowhere where there is none
abbrev pub change_at : ℕ → (Tally → Tally) → List Tally → List Tally
change_at zero f [] = []
change_at (suc hub) f [] = []
change_at zero f (t ∷ ts) = f t ∷ ts
change_at (suc hub) f (t ∷ ts) = t ∷ change_at hub f ts

-- ---- two sessions together

abbrev pub plus : Tally → Tally → Tally
plus t u = tally (t.begun + u.begun) (t.taken + u.taken) (t.begun_parts + u.begun_parts) (t.taken_parts + u.taken_parts)

-- hub by hub
abbrev pub sums : List Tally → List Tally → List Tally
sums [] us = []
sums (t ∷ ts) [] = []
sums (t ∷ ts) (u ∷ us) = plus t u ∷ sums ts us
