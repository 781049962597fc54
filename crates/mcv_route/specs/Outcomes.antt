-- What the legs of a call have answered, and which index each symbol has.
use Rattle.std.specs.Prelude.{ℕ, ◌<◌, Bool, true, false, ◌&&◌, nat_eq, if◌then◌else◌, List, [], ◌∷◌, length, Option, Some, None, slice_index}
use Rattle.mcv_base.specs.declared.reply.Outcome.{Outcome}

-- what each position answered, if it did (own)
abbrev pub Outcomes : Type 0
Outcomes = List ℕ → Option Outcome

abbrev pub is_same : List ℕ → List ℕ → Bool
is_same [] [] = true
is_same [] (j ∷ q) = false
is_same (i ∷ p) [] = false
is_same (i ∷ p) (j ∷ q) = nat_eq i j && is_same p q

-- positions with their outcomes, the newest first
abbrev pub History : Type 0
History = List (List ℕ × Outcome)

-- such a list as a map
abbrev pub outcomes : History → Outcomes
outcomes [] p = None
outcomes (e ∷ es) p = if is_same e.0 p then Some e.1 else outcomes es p

-- an index for each symbol, by its number
abbrev pub Choice : Type 0
Choice = ℕ → ℕ

-- an index below its number of servers for each symbol
abbrev pub IsChoice : List ℕ → Choice → Type 0
IsChoice sizes c = (s : ℕ) → s < length sizes → c s < slice_index sizes s
